-- The revisions that a run has seen, each by its project and its commit: of each the change and the patch set, the
-- oldest first. How many are kept is the project's own.
use Rattle.std.specs.Prelude.{ℕ, ◌-◌, List, [], ◌∷◌, ◌++◌, length, drop, if◌then◌else◌, Option, is_some}
use Rattle.std.specs.Str.{bytes_eq}
use Rattle.std.specs.Map.{lookup}

abbrev pub Revision : Type 0
Revision = List ℕ × (ℕ × ℕ)

abbrev pub most_revisions : ℕ
most_revisions = 100000

-- the change and the patch set of a revision, where it is known
abbrev pub revision_place : List Revision → List ℕ → Option (ℕ × ℕ)
revision_place known revision = lookup (bytes_eq revision) known

-- the last so many of a list
abbrev pub newest : {A : Type 0} → ℕ → List A → List A
newest count xs = drop (length xs - count) xs

-- a revision that is known stays as it is; another comes last, and where they are too many the oldest is forgotten
abbrev pub with_revision : List Revision → Revision → List Revision
with_revision known new = if is_some (revision_place known new.0) then known else newest most_revisions (known ++ new ∷ [])
