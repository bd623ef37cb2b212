-- The first node of a node's cycle is a node.
use Rattle.std.specs.Prelude.{◌<◌, ℕ, List, length}
use Rattle.std.proofs.Common.{zero, suc, get_or, arith}
use Rattle.walk_core.specs.Components.{AreFirsts}
use Rattle.walk_core.specs.Digraphs.{HasEdge}
use Rattle.walk_core.specs.Edges.{HasEdge-starts}
use Rattle.walk_core.specs.Ranks.{LeadsTo}

begins_within : (graph : List (List ℕ)) (x y : ℕ) → y < length graph → LeadsTo (HasEdge graph) x y → x < length graph
begins_within graph x y within (zero, same) = omega (arith, within, same)
begins_within graph x y within (suc n, walk) = HasEdge-starts graph x walk.0 walk.1

pub first_within : (graph : List (List ℕ)) (firsts : List ℕ) → AreFirsts graph firsts → (x : ℕ) → x < length graph
    → get_or firsts x 0 < length graph
first_within graph firsts are x within = begins_within graph (get_or firsts x 0) x within (are.each x within).here.back
