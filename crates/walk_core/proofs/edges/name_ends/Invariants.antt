use Rattle.std.proofs.Common.{◌≡◌, map, take}
use Rattle.std.specs.List.{Contains}
use Rattle.walk_core.specs.Digraphs.{AddsEdges}
use Rattle.walk_core.proofs.edges.name_ends.Given as goal

abbrev pub invariant-loop-end : goal.invariant-loop-end
invariant-loop-end g l = AddsEdges (map (λ row. row.items) l.initial.namers.items)
    (λ x y. Contains (take l.end-index l.ends) x × (y ≡ l.node)) (map (λ row. row.items) l.namers.items)
