use Rattle.std.proofs.Common.{◌≡◌, take}
use Rattle.replica_core.specs.Journal.{all_arrived}
use Rattle.site_shared.proofs.spares.with_copies.Given as goal

-- the first operations came
abbrev pub invariant-loop-op : goal.invariant-loop-op
invariant-loop-op l = l.replica ≡ all_arrived l.fn.replica (take l.op-index l.ops)
