use Rattle.std.proofs.Common.{◌≡◌, take}
use Rattle.replica_core.specs.Journal.{all_arrived}
use Rattle.world_core.proofs.site.take_copies.Given as goal

-- the first operations are in
abbrev pub invariant-loop-taken : goal.invariant-loop-taken
invariant-loop-taken g l = l.replica ≡ all_arrived l.fn.replica (take l.taken l.ops)
