use Rattle.std.proofs.Common.{◌≡◌, ◌++◌, map, flat_map}
use Rattle.graph_core.specs.Listed.{items_in, all_items}
use Rattle.graph_core.proofs.items.items_of.Given as goal

-- the items so far, with those of the changes that are left, are all
abbrev pub invariant-loop-number : goal.invariant-loop-number
invariant-loop-number l =
    l.items.items ++ flat_map items_in (map (λ pair. (pair.0, pair.1)) l.number-iterator) ≡ all_items l.state
