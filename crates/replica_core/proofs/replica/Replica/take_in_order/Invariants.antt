use Rattle.std.proofs.Common.{◌≡◌, take, drop, reverse}
use Rattle.std.proofs.Common.{length}
use Rattle.replica_core.specs.Journal.{all_arrived}
use Rattle.replica_core.proofs.replica.Replica.take_in_order.Given as goal

-- the first operations are in, and the others are left
abbrev pub invariant-loop-op : goal.invariant-loop-op
invariant-loop-op g l =
    let whole = reverse l.initial.ops.items in
    record {
      left : reverse l.ops.items ≡ drop l.taken whole;
      done : l.self ≡ all_arrived l.fn.self (take l.taken whole);
    }

abbrev pub decreases-loop-op : goal.decreases-loop-op
decreases-loop-op g l = length l.ops.items
