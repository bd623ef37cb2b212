use Rattle.std.proofs.Common.{◌∙◌}
use Rattle.event_feed.specs.Texts.{fault_line}
use Rattle.feed_client.proofs.Reporting.{reported_as}
use Rattle.feed_client.proofs.meet.report_loss.Goals as goal

pub returns-in-Ok : goal.returns-in-Ok
returns-in-Ok g c = reported_as c.as_str.result.now (fault_line c.args.number c.args.fault) _ _ c.report.result
    (c.as_str.ensures.value ∙ c.in-Ok.ensures) c.report.ensures
