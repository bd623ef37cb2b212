use Rattle.std.proofs.Common.{ℕ, take}
use Rattle.std.specs.List.{Contains}
use Rattle.walk_core.specs.Sums.{IsHereOrNext}
use Rattle.walk_core.proofs.sums.leads_elsewhere.Given as goal

abbrev pub invariant-loop-end : goal.invariant-loop-end
invariant-loop-end l = (x : ℕ) → Contains (take l.end-index l.ends) x → IsHereOrNext l.firsts l.first l.next x
