-- Which changes a message needs. Zuul's documentation, "Cross-Project Dependencies": a footer may appear several
-- times, and the dependency is one-way. That a value which names the message's own change makes no dependency, and
-- is listed with those that name none, is this project's own rule.
use Rattle.std.specs.Prelude.{◌≡◌, ℕ, ◌≢◌, ◌⊎◌, ◌↔◌, List, [], ◌∷◌, Contains}
use Rattle.std.specs.List.Sorted.{IsStrictlyIncreasing}
use Rattle.footer_text.specs.Lines.{lines_of, IsFooter}
use Rattle.footer_text.specs.Readings.{NamesChange}

-- the line is a footer whose value names this change, which isn't the message's own
abbrev pub LineNeeds : List (List ℕ) → ℕ → List ℕ → ℕ → Type 0
LineNeeds bases own line change =
    (value : List ℕ) × IsFooter line value × NamesChange bases value change × (change ≢ own)

abbrev pub LinesNeed : List (List ℕ) → ℕ → List (List ℕ) → ℕ → Type 0
LinesNeed bases own lines change = (line : List ℕ) × Contains lines line × LineNeeds bases own line change

-- the message of the change own needs this change; own is 0 where the message is of no change
abbrev pub MessageNeeds : List (List ℕ) → ℕ → List ℕ → ℕ → Type 0
MessageNeeds bases own message change = LinesNeed bases own (lines_of message) change

-- the line is a footer with this value, which names no other change than the message's own
abbrev pub LineIgnores : List (List ℕ) → ℕ → List ℕ → List ℕ → Type 0
LineIgnores bases own line value = IsFooter line value × ((change : ℕ) → NamesChange bases value change → change ≡ own)

-- ys are what R gives of each x, in their order: a y, or none where there is none
abbrev pub Gives : {X Y : Type 0} → (X → Y → Type 0) → List X → List Y → Type 0
Gives R [] ys = ys ≡ []
Gives {X} {Y} R (x ∷ xs) ys = ((y : Y) × (rest : List Y) × (ys ≡ y ∷ rest) × R x y × Gives R xs rest)
    ⊎ (((y : Y) → ¬ (R x y)) × Gives R xs ys)

-- the changes that the message needs, in order, each once, and the other footers' values in the order of the lines
pub record AreFooters (bases : List (List ℕ)) (own : ℕ) (message needs : List ℕ) (ignored : List (List ℕ)) : Type 0 where
  pub increasing : IsStrictlyIncreasing needs
  pub needed : (change : ℕ) → Contains needs change ↔ MessageNeeds bases own message change
  pub others : Gives (LineIgnores bases own) (lines_of message) ignored

-- the same of some lines, with the changes in any order
pub record AreCollected (bases : List (List ℕ)) (own : ℕ) (lines : List (List ℕ)) (needs : List ℕ) (ignored : List (List ℕ)) : Type 0 where
  pub needed : (change : ℕ) → Contains needs change ↔ LinesNeed bases own lines change
  pub others : Gives (LineIgnores bases own) lines ignored
