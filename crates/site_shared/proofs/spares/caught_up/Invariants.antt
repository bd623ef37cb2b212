use Rattle.std.proofs.Common.{◌≡◌, take}
use Rattle.site_shared.proofs.spares.caught_up.Given as goal

-- the first operations are in
abbrev pub invariant-loop-place : goal.invariant-loop-place
invariant-loop-place l = l.replica ≡ take l.place l.shown
