-- How a text goes to a drain page by page: what waits on the page goes first. The form is the project's own.
use Rattle.std.specs.Prelude.{◌≡◌, ◌+◌, ◌<◌, ◌≤◌, ℕ, List, ◌++◌, Option, length, take}
use Rattle.std.specs.Io.KnownBytes.{Appends}
use Rattle.arrayvec.specs.ArrayString.{ArrayString, array_string_len}

-- so many bytes more are on a page
abbrev pub HasRoom : ArrayString → ℕ → Type 0
HasRoom page more = array_string_len page + more ≤ 4096

-- the drain took some prefix of the text, not all
abbrev pub IsCut : Option (List ℕ) → Option (List ℕ) → List ℕ → Type 0
IsCut old new text = (count : ℕ) × (count < length text) × Appends old new (take count text)

-- what waited, and the text after it, is what the drain took, and what waits now
pub record PassesPage (old : Option (List ℕ)) (waited : List ℕ) (new : Option (List ℕ)) (waits text : List ℕ) : Type 0 where
  pub written : List ℕ
  pub took : Appends old new written
  pub same : waited ++ text ≡ written ++ waits
