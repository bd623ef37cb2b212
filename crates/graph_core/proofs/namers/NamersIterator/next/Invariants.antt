use Rattle.std.proofs.Common.{◌≡◌, length, map}
use Rattle.graph_core.specs.ItemGraph.{namers_of}
use Rattle.graph_core.proofs.namers.NamersIterator.next.Given as goal

-- those that are left are those that were
abbrev pub invariant-loop-item : goal.invariant-loop-item
invariant-loop-item l =
    namers_of l.self-inside.items.now (map (λ row. row.items) l.self-inside.targets.now) l.self-inside.change ≡ l.fn.self

abbrev pub decreases-loop-item : goal.decreases-loop-item
decreases-loop-item l = length l.self-inside.items.now
