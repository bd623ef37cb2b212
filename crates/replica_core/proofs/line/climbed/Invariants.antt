use Rattle.std.proofs.Common.{◌≡◌, ◌≤◌, ◌-◌, ℕ, true}
use Rattle.replica_core.specs.Front.{holds}
use Rattle.replica_core.proofs.line.climbed.Given as goal

-- up to here there is no gap
abbrev pub invariant-loop-reach : goal.invariant-loop-reach
invariant-loop-reach g l = (seq : ℕ) → 1 ≤ seq → seq ≤ l.reach → holds l.arrivals.items l.line.site l.line.start seq ≡ true

abbrev pub decreases-loop-reach : goal.decreases-loop-reach
decreases-loop-reach g l = l.last - l.reach
