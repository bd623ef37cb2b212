use Rattle.std.proofs.Common.{take}
use Rattle.replica_core.specs.Sets.{IsSameSet}
use Rattle.site_journal.specs.Leaving.{kept_of}
use Rattle.site_journal.proofs.leaving.kept.Given as goal

-- those of the first operations that aren't left out were taken
abbrev pub invariant-loop-place : goal.invariant-loop-place
invariant-loop-place l = IsSameSet l.gathering (kept_of l.left_out (take l.place l.replica))
