use Rattle.walk_core.proofs.Kept.{HasKept}
use Rattle.walk_core.proofs.ranks.kept_numbers.Given as goal

abbrev pub invariant-loop-node : goal.invariant-loop-node
invariant-loop-node g l = HasKept l.kept l.node l.nodes.items
