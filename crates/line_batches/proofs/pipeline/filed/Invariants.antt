use Rattle.std.proofs.Common.{◌≡◌, ◌++◌}
use Rattle.replica_core.specs.Journal.{all_arrived}
use Rattle.line_batches.proofs.pipeline.filed.Given as goal

-- those that were handed out have arrived, and the others are left
abbrev pub invariant-loop-op : goal.invariant-loop-op
invariant-loop-op l =
    (l.both ≡ all_arrived l.fn.gathering l.yielded) × (l.fn.ops.items ≡ l.yielded ++ l.op-iterator.rest.items)
