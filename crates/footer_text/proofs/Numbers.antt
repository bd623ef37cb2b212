-- A change's number and its optional tail.
use Rattle.std.proofs.Common.{◌≡◌, ℕ, Option, Some, None, List, [], ◌∷◌, ◌++◌, MatchOption, sym, inl, inr, append-nil}
use Rattle.std.proofs.Common.{refl}
use Rattle.footer_text.specs.Readings.{SpellsChange, IsPatch, IsNumberAndTail}

-- what answers P answers Q, where they say the same
pub answers_same : (P Q : ℕ → Type 0) (r : Option ℕ) → ((n : ℕ) → P n → Q n) → ((n : ℕ) → Q n → P n)
    → MatchOption r ((n : ℕ) → ¬ (P n)) P → MatchOption r ((n : ℕ) → ¬ (Q n)) Q
answers_same P Q None to from h = λ n q. h n (from n q)
answers_same P Q (Some n) to from h = to n h

pub alone_number : (text : List ℕ) (change : ℕ) → SpellsChange text change → IsNumberAndTail text change
alone_number text change s =
    record { digits = text; tail = []; whole = sym (append-nil text); spells = s; is_tail = inl refl }

module _ (text digits patch : List ℕ) (whole : text ≡ digits ++ 47 ∷ patch) (change : ℕ) where
  pub number_and_patch : SpellsChange digits change → IsPatch patch → IsNumberAndTail text change
  number_and_patch s p =
      record { digits = digits; tail = 47 ∷ patch; whole = whole; spells = s; is_tail = inr (patch, p, refl) }
