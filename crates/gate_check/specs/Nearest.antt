-- The nearest of names: the one from which the fewest characters differ. How far it may be is what rustc takes for a
-- name that it doesn't know.
use Rattle.std.specs.Prelude.{◌≡◌, ◌<◌, ◌≤◌, ℕ, List, [], ◌∷◌, ◌++◌, ◌/◌, length, max, nat_eq, nat_le, nat_lt}
use Rattle.std.specs.Prelude.{if◌then◌else◌, Option, None, Some, MatchOption}
use Rattle.std.specs.List.{AllByRecursion}
use Rattle.std.specs.Str.{chars}
use Rattle.strsim.specs.Edits.{levenshtein_row}

-- how many characters have to be put in, taken out or replaced to make a name of the other (Levenshtein's distance)
abbrev pub edits : List ℕ → List ℕ → ℕ
edits name other = levenshtein_row nat_eq (chars name) (chars other) (length (chars other))

-- how many these may be: a third of the name's bytes, and one at least
abbrev pub most_edits : List ℕ → ℕ
most_edits name = max (length name / 3) 1

-- the nearer of two, and the first where both are as near
abbrev pub nearer : List ℕ → Option (List ℕ) → List ℕ → List ℕ
nearer name None other = other
nearer name (Some best) other = if nat_lt (edits name other) (edits name best) then other else best

abbrev pub nearest_of : List ℕ → Option (List ℕ) → List (List ℕ) → Option (List ℕ)
nearest_of name best [] = best
nearest_of name best (other ∷ others) = nearest_of name (Some (nearer name best other)) others

-- one that isn't too far
abbrev pub if_near : List ℕ → Option (List ℕ) → Option (List ℕ)
if_near name None = None
if_near name (Some found) = if nat_le (edits name found) (most_edits name) then Some found else None

abbrev pub nearest : List ℕ → List (List ℕ) → Option (List ℕ)
nearest name names = if_near name (nearest_of name None names)

-- ---- what is found so

-- it is one of the names and near enough; each one before it is further, and none after it is nearer
pub record IsNearestName (name : List ℕ) (names : List (List ℕ)) (found : List ℕ) : Type 0 where
  pub before : List (List ℕ)
  pub after : List (List ℕ)
  pub split : names ≡ before ++ found ∷ after
  pub further : AllByRecursion (λ other. edits name found < edits name other) before
  pub as_near : AllByRecursion (λ other. edits name found ≤ edits name other) after
  pub near : edits name found ≤ most_edits name

-- that is found, or nothing where each of the names is too far
abbrev pub FindsNearest : Type 0
FindsNearest = (name : List ℕ) (names : List (List ℕ))
    → MatchOption (nearest name names) (AllByRecursion (λ other. most_edits name < edits name other) names) (IsNearestName name names)
