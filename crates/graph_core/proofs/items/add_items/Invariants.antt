use Rattle.std.proofs.Common.{◌≡◌, ◌++◌, map}
use Rattle.change_core.specs.Parts.{patch_of}
use Rattle.graph_core.specs.Listed.{item_of, items_in}
use Rattle.graph_core.proofs.items.add_items.Given as goal

-- the items so far, with those that are left, are all
abbrev pub invariant-loop-set : goal.invariant-loop-set
invariant-loop-set l =
    l.items.items ++ map (item_of l.change) (map (λ pair. (pair.0, (pair.1.0, patch_of pair.1.1))) l.set-iterator)
    ≡ l.initial.items.items ++ items_in (l.change, l.state)
