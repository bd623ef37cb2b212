use Rattle.std.proofs.Common.{◌∙◌}
use Rattle.feed_client.specs.Meeting.{refused_line}
use Rattle.feed_client.proofs.Reporting.{reported_as}
use Rattle.feed_client.proofs.meet.report_refusal.Goals as goal

pub returns-in-Ok : goal.returns-in-Ok
returns-in-Ok g c = reported_as c.as_str.result.now (refused_line c.args.number c.args.refusal) _ _ c.report.result
    (c.as_str.ensures.value ∙ c.in-Ok.ensures) c.report.ensures
