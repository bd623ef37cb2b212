use Rattle.page_text.specs.Reached.{HasReached}
use Rattle.page_text.proofs.reached.reached_from.Given as goal

abbrev pub invariant-loop-at : goal.invariant-loop-at
invariant-loop-at l = HasReached l.gate l.state l.item l.at l.changes.items
