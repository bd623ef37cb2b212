-- The fields of a script's line.
use Rattle.std.specs.Prelude.{◌≡◌, ◌≤◌, ℕ, ◌+◌, ◌-◌, ◌*◌, List, ◌∷◌, ◌++◌, All, length, fold, IsTrue, Contains}
use Rattle.std.specs.Char.{is_ascii_digit}

-- the number that digits write
abbrev pub written_number : List ℕ → ℕ
written_number digits = fold (λ number digit. number * 10 + (digit - 48)) 0 digits

abbrev pub AllDigits : List ℕ → Type 0
AllDigits field = All (λ byte. IsTrue (is_ascii_digit byte)) field

-- the field is a number of 1 to 20 digits, at most this one
pub record IsNumberField (field : List ℕ) (most number : ℕ) : Type 0 where
  pub some : 1 ≤ length field
  pub few : length field ≤ 20
  pub digits : AllDigits field
  pub value : number ≡ written_number field
  pub small : number ≤ most

-- the line is the word, one blank and the rest
abbrev pub IsAfterWord : List ℕ → List ℕ → List ℕ → Type 0
IsAfterWord line word rest = line ≡ word ++ 32 ∷ rest

-- the fields are one without a blank, one blank and the rest
pub record IsSplit (fields field rest : List ℕ) : Type 0 where
  pub whole : fields ≡ field ++ 32 ∷ rest
  pub no_blank : ¬ Contains field 32
