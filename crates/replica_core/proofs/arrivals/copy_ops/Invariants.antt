use Rattle.std.proofs.Common.{◌≡◌, take}
use Rattle.replica_core.proofs.arrivals.copy_ops.Given as goal

abbrev pub invariant-loop-op : goal.invariant-loop-op
invariant-loop-op g l = l.copies.items ≡ take l.op-index l.ops
