use Rattle.std.proofs.Common.{◌≡◌, map, take}
use Rattle.walk_core.specs.NodeRanks.{node_rank}
use Rattle.walk_core.proofs.ranks.ranks_of.Given as goal

abbrev pub invariant-loop-node : goal.invariant-loop-node
invariant-loop-node g l = l.ranks.items ≡ map (node_rank l.firsts l.counts) (take l.node-index l.nodes)
