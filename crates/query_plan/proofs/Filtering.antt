-- What passes a test among the first ones of a list, one more.
use Rattle.std.proofs.Common.{◌≡◌, ◌<◌, ◌+◌, ◌++◌, ◌∷◌, ℕ, Bool, true, false, List, [], arith, length, take}
use Rattle.std.specs.Prelude.{filter, slice_index}
use Rattle.std.proofs.lemmas.Grind.{common_steps}

pub one_passes : (test : ℕ → Bool) (changes before after : List ℕ) (i : ℕ) → i < length changes
    → before ≡ filter test (take i changes) → test (slice_index changes i) ≡ true
    → after ≡ before ++ slice_index changes i ∷ [] → after ≡ filter test (take (i + 1) changes)
one_passes test changes before after i within is passes more = grind (arith, common_steps)

pub one_fails : (test : ℕ → Bool) (changes before : List ℕ) (i : ℕ) → i < length changes
    → before ≡ filter test (take i changes) → test (slice_index changes i) ≡ false
    → before ≡ filter test (take (i + 1) changes)
one_fails test changes before i within is fails = grind (arith, common_steps)
