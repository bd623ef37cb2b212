-- Ranks of numbered nodes, as they are sorted.
use Rattle.std.specs.Prelude.{ℕ, List, slice_index}
use Rattle.walk_core.specs.Ranks.{Rank}
use Rattle.walk_core.specs.declared.ranks.NodeRank.{NodeRank}

-- the rank of a node, by the first nodes and the counts that are at these
abbrev pub node_rank : List ℕ → List ℕ → ℕ → NodeRank
node_rank firsts counts node =
    record { count = slice_index counts (slice_index firsts node); first = slice_index firsts node; node = node }

-- the same, as a rank
abbrev pub to_rank : NodeRank → Rank ℕ
to_rank rank = record { count = rank.count; first = rank.first; node = rank.node }
