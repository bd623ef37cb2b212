-- How the revisions that are known are kept: in the order of their ages, and by the hashes of their texts.
use Rattle.std.specs.Prelude.{◌≡◌, ℕ, ◌≤◌, List, [], ◌∷◌, length, None, String, string_bytes}
use Rattle.std.specs.HashMap.{HashMap, get_by_text}
use Rattle.std.specs.declared.alloc.Global.{Global}
use Rattle.gerrit_events.specs.declared.known.Seen.{Seen}
use Rattle.gerrit_events.specs.Revisions.{Revision, revision_place, most_revisions}

abbrev pub seen_shown : Seen → Revision
seen_shown seen = (string_bytes seen.revision, (seen.change, seen.set))

-- no revision comes twice
abbrev pub NoneTwice : List Revision → Type 0
NoneTwice [] = Unit {0}
NoneTwice (seen ∷ known) = (revision_place known seen.0 ≡ None) × NoneTwice known

-- the map has just what is known
pub record PlacesAgree {S : Type 0} (places : HashMap (String Global) (ℕ × ℕ) S) (known : List Revision) : Type 0 where
  pub same : (revision : List ℕ) → get_by_text places revision ≡ revision_place known revision
  pub apart : NoneTwice known

pub record AreKeptRevisions {S : Type 0} (places : HashMap (String Global) (ℕ × ℕ) S) (known : List Revision) : Type 0 where
  pub agree : PlacesAgree places known
  pub few : length known ≤ most_revisions
