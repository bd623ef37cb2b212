use Rattle.std.proofs.Common.{◌≡◌, map, take}
use Rattle.walk_core.specs.NodeRanks.{to_rank as to_node_rank}
use Rattle.ready_core.specs.ItemRanks.{to_rank}
use Rattle.ready_core.specs.Causes.{rank_at}
use Rattle.ready_core.proofs.judge.ranks_at.Given as goal

abbrev pub invariant-loop-place : goal.invariant-loop-place
invariant-loop-place l =
    map to_rank l.found.items ≡ map (rank_at l.items) (map to_node_rank (take l.place-index l.places))
