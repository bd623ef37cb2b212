use Rattle.walk_core.specs.Sums.{AreNexts}
use Rattle.walk_core.proofs.sums.next_cycles.Given as goal

abbrev pub invariant-loop-node : goal.invariant-loop-node
invariant-loop-node g l = AreNexts l.graph l.firsts l.nexts.items
