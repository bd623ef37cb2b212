use Rattle.std.proofs.Common.{◌≡◌, take}
use Rattle.replica_core.specs.Journal.{all_arrived}
use Rattle.record_pull.proofs.joining.with_all.Given as goal

-- the operations so far are taken
abbrev pub invariant-loop-place : goal.invariant-loop-place
invariant-loop-place l = l.both ≡ all_arrived l.fn.gathering (take l.place l.other)
