use Rattle.std.proofs.Common.{take}
use Rattle.walk_core.specs.Sums.{AreForks}
use Rattle.walk_core.proofs.sums.forks_of.Given as goal

abbrev pub invariant-loop-node : goal.invariant-loop-node
invariant-loop-node g l = AreForks l.graph l.firsts l.nexts (take l.node-index l.nodes) l.forks.items
