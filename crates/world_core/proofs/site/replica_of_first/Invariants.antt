use Rattle.std.proofs.Common.{◌≡◌, take}
use Rattle.world_core.proofs.site.replica_of_first.Given as goal

-- the first operations are in
abbrev pub invariant-loop-place : goal.invariant-loop-place
invariant-loop-place g l = l.first ≡ take l.place l.replica
