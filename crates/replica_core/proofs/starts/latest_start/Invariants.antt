use Rattle.std.proofs.Common.{ℕ, ◌≤◌, take}
use Rattle.replica_core.specs.Starts.{HasNoLater}
use Rattle.replica_core.proofs.starts.latest_start.Given as goal

-- none of the first operations has a later start, and no less is that of all
abbrev pub invariant-loop-place : goal.invariant-loop-place
invariant-loop-place l = HasNoLater l.site l.latest (take l.place l.replica)
    × ((start : ℕ) → HasNoLater l.site start l.replica → l.latest ≤ start)
