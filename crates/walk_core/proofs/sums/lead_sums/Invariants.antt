use Rattle.walk_core.specs.Sums.{AreSums}
use Rattle.walk_core.proofs.sums.lead_sums.Given as goal

abbrev pub invariant-loop-node : goal.invariant-loop-node
invariant-loop-node g l = AreSums l.graph l.targets l.sums.items
