use Rattle.std.proofs.Common.{◌≡◌, ◌++◌}
use Rattle.std.specs.Vec.Iter.{into_iter_items}
use Rattle.replica_core.proofs.arrivals.joined.Given as goal

-- what was added and what is left
abbrev pub invariant-loop-op : goal.invariant-loop-op
invariant-loop-op g l = l.first.items ++ into_iter_items l.op-iterator ≡ l.fn.first.items ++ l.fn.second.items
