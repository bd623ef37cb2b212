use Rattle.std.proofs.Common.{◌∙◌, ap}
use Rattle.std.specs.Prelude.{◌||◌}
use Rattle.report_changes.specs.Listing.{is_out}
use Rattle.report_changes.proofs.Members.{out_by}
use Rattle.report_changes.proofs.listed.Listed.is_listed.Goals as goal

pub returns-else-is_ready : goal.returns-else-is_ready
returns-else-is_ready c =
    c.is_some.ensures ∙ out_by c.args.self.now c.args.item c.refusal.result c.refusal.ensures
    ∙ ap (λ b. b || is_out c.args.self.now c.args.item) c.if-is_ready.ensures
