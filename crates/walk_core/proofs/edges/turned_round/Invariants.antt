use Rattle.std.proofs.Common.{◌<◌, [], map, length, replicate}
use Rattle.walk_core.specs.Digraphs.{AddsEdges, HasEdge}
use Rattle.walk_core.proofs.edges.turned_round.Given as goal

abbrev pub invariant-loop-node : goal.invariant-loop-node
invariant-loop-node g l = AddsEdges (replicate (length l.ends) [])
    (λ x y. (y < l.node) × HasEdge (map (λ row. row.items) l.ends) y x) (map (λ row. row.items) l.namers.items)
