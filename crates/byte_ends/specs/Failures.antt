-- How the calls that failed are counted. The rule is this project's own.
use Rattle.std.specs.Prelude.{◌≡◌, ℕ, ◌+◌, ◌-◌, ◌^◌, ◌<◌, ◌≤◌, min, Result, Ok, Err, MatchResult, IsOk, refl}
use Rattle.std.proofs.Common.{arith}

-- the greatest count, `u64::MAX`, at which the count stays
abbrev pub most_failures : ℕ
most_failures = 2 ^ 64 - 1

-- the later count has one failed call more
abbrev pub OneFailed : ℕ → ℕ → Type 0
OneFailed old new = new ≡ min (old + 1) most_failures

-- no call failed between the two counts: they are equal, below the greatest, at which nothing is known
pub record NoneFailed (old new : ℕ) : Type 0 where
  pub same : new ≡ old
  pub below : old < most_failures

-- with an `Err` the count is one more, and an `Ok` leaves it
abbrev pub CountsFailure : {T E : Type 0} → ℕ → ℕ → Result T E → Type 0
CountsFailure old new r = MatchResult r (λ _. new ≡ old) (λ _. OneFailed old new)

-- ---- laws of use
