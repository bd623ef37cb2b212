-- The rule of the word that all threads share, and what its one step shows.
use Rattle.std.specs.Prelude.{ℕ, ◌≡◌, ◌==◌, true, List, [], ◌∷◌, ◌++◌, length, MatchBool}
use Rattle.logbook.specs.Pages.{Cell, Step, View, Book, Named}
use Rattle.review_ops.specs.Operation.{Operation}

-- the first word is the length of the list. A book has two words, of which this one leaves the second at 0
abbrev pub IsCounted : List Cell → List (List Operation) → Type 0
IsCounted cells log = cells ≡ (length log, true) ∷ (0, true) ∷ []

abbrev pub head_of : Book → Named
head_of book = record { tracked = true; key = 0; book = book }

-- where the length was as expected, the list is the one that had been seen, with one more
abbrev pub AddsEntry : Step (List Operation) → View (List Operation) ℕ → ℕ → View (List Operation) ℕ → Type 0
AddsEntry step before found after = MatchBool (found == step.old) (after.0 ≡ before.0 ++ step.ask ∷ []) (Unit {0})
