-- HTML that is being written: its bytes, or none once memory was refused for it.
use Rattle.std.specs.Prelude.{◌≡◌, ℕ, List, ◌++◌, Option, None, Some}

-- unless memory was refused, there were bytes before, and these became those; and what was refused stays so
abbrev pub Grows : (List ℕ → List ℕ → Type 0) → Option (List ℕ) → Option (List ℕ) → Type 0
Grows step old None = Unit {0}
Grows step None (Some new) = ⊥
Grows step (Some old) (Some new) = step old new

-- just this HTML was added
abbrev pub Adds : List ℕ → Option (List ℕ) → Option (List ℕ) → Type 0
Adds html = Grows (λ old new. new ≡ old ++ html)

-- just what the other HTML has was added
abbrev pub AddsAll : Option (List ℕ) → Option (List ℕ) → Option (List ℕ) → Type 0
AddsAll None old new = new ≡ None
AddsAll (Some html) old new = Adds html old new
