use Rattle.report_changes.proofs.Members.{nothing_kept}
use Rattle.report_changes.proofs.listed.Listed.new.Goals as goal

pub invariant_of-result : goal.invariant_of-result
invariant_of-result c = nothing_kept _ _ _ c.new.ensures.items c.new-2.ensures.items c.new-3.ensures.items
