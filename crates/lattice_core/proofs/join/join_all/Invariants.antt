use Rattle.std.proofs.Common.{◌≡◌, Some, map, fold}
use Rattle.std.specs.List.{reduce}
use Rattle.std.specs.Vec.Iter.{into_iter_items}
use Rattle.lattice_core.proofs.join.join_all.Given as goal

-- the states so far, joined with those that are left, are all of them
abbrev pub invariant-loop-state : goal.invariant-loop-state
invariant-loop-state g l =
    reduce g.J.Join.joined (map g.J.Join.shape l.fn.states.items)
    ≡ Some (fold g.J.Join.joined (g.J.Join.shape l.whole) (map g.J.Join.shape (into_iter_items l.state-iterator)))
