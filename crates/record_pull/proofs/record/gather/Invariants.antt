use Rattle.std.proofs.Common.{◌≡◌, ◌++◌}
use Rattle.replica_core.specs.Journal.{all_arrived}
use Rattle.snapshot_text.specs.Sound.{AreSoundOperations}
use Rattle.record_pull.proofs.record.gather.Given as goal

-- those that were handed out are in, each is sound, and the others are left
abbrev pub invariant-loop-op : goal.invariant-loop-op
invariant-loop-op l =
    (l.replica ≡ all_arrived l.initial.replica l.yielded) × AreSoundOperations l.yielded
    × (l.fn.ops.items ≡ l.yielded ++ l.op-iterator.rest.items)
