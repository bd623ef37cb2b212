-- The lines of a message, and what a footer has. Zuul's documentation, "Cross-Project Dependencies", has the
-- footer `Depends-On: URL`. That its word may be in any case, that blanks may be missing after the colon and are
-- dropped round the value, and that an indented line is no footer, are this project's own rules.
use Rattle.std.specs.Prelude.{◌≡◌, ℕ, ◌⊎◌, ◌==◌, List, [], ◌∷◌, ◌++◌, map, codes}
use Rattle.std.specs.Char.{to_ascii_lowercase}
use Rattle.std.specs.List.{AllByRecursion, slice_split}

-- the text is cut at each LF; what follows the last is a line too
abbrev pub lines_of : List ℕ → List (List ℕ)
lines_of text = slice_split (λ b. b == 10) text

-- a space, a tab or a carriage return
abbrev pub IsBlank : ℕ → Type 0
IsBlank b = (b ≡ 32) ⊎ ((b ≡ 9) ⊎ (b ≡ 13))

abbrev pub BeginsBare : List ℕ → Type 0
BeginsBare text = (b : ℕ) (rest : List ℕ) → text ≡ b ∷ rest → ¬ (IsBlank b)

abbrev pub EndsBare : List ℕ → Type 0
EndsBare text = (b : ℕ) (rest : List ℕ) → text ≡ rest ++ b ∷ [] → ¬ (IsBlank b)

-- the text is blanks, the value and blanks, and the value neither begins nor ends with one
pub record HasBare (text value : List ℕ) : Type 0 where
  pub before : List ℕ
  pub after : List ℕ
  pub whole : text ≡ before ++ (value ++ after)
  pub blank_before : AllByRecursion IsBlank before
  pub blank_after : AllByRecursion IsBlank after
  pub begins : BeginsBare value
  pub ends : EndsBare value

-- the line is the word `Depends-On` in any case, a colon, and the value between blanks
pub record IsFooter (line value : List ℕ) : Type 0 where
  pub word : List ℕ
  pub rest : List ℕ
  pub whole : line ≡ word ++ 58 ∷ rest
  pub is_word : map to_ascii_lowercase word ≡ codes "depends-on"
  pub has : HasBare rest value
