-- Where the changes of the answer to a query are to be merged: the `number`, `project` and `branch` of a row ("JSON
-- Data", change).
use Rattle.std.specs.Prelude.{◌≡◌, ◌⊎◌, ℕ, List, Option, Some, None, codes, option_and_then, option_map, string_bytes}
use Rattle.serde_json.specs.Data.{Data, Members, object}
use Rattle.gerrit_events.specs.Kinds.{line_kind}
use Rattle.gerrit_events.specs.Reading.{IsLineObject}
use Rattle.gerrit_events.specs.Values.{number_value, text_in, under}
use Rattle.gerrit_events.specs.declared.kind.Kind.{Kind}
use Rattle.gerrit_events.specs.declared.kind.Kind.TheVariants.{QueryLine, QueryStats}
use Rattle.gerrit_events.specs.declared.row.ChangePlace.{ChangePlace}
use Rattle.gerrit_events.specs.declared.row.Found.{Found}
use Rattle.gerrit_events.specs.declared.row.QueryLine.{QueryLine as Line}
use Rattle.gerrit_events.specs.declared.row.QueryLine.TheVariants.{Row, Stats, Other}

-- a change, its project and its branch
pub record Place : Type 0 where
  pub change : ℕ
  pub project : List ℕ
  pub branch : List ℕ

abbrev pub place : ℕ → List ℕ → List ℕ → Place
place change project branch = record { change = change; project = project; branch = branch }

-- the place that a row has; none where it lacks a part of it
abbrev pub place_in : Data → Option Place
place_in row =
    option_and_then (λ change. option_and_then (λ project. option_map (place change project)
    (text_in (under (codes "branch") (Some row))))
    (text_in (under (codes "project") (Some row))))
    (number_value (under (codes "number") (Some row)))

abbrev pub copied : Found → Place
copied found = place found.change found.project.now found.branch.now

abbrev pub place_shown : ChangePlace → Place
place_shown found = place found.change (string_bytes found.project) (string_bytes found.branch)

-- the line is a row with this place, or says nothing where there is none
abbrev pub IsRow : Option Place → Line → Type 0
IsRow found (Row row) = found ≡ Some (place_shown row)
IsRow found Stats = ⊥
IsRow found Other = found ≡ None

abbrev pub SaysBy : Option Kind → Data → Line → Type 0
SaysBy (Some QueryLine) value line = IsRow (place_in value) line
SaysBy (Some QueryStats) value line = line ≡ Stats
SaysBy kind value line = line ≡ Other

-- the object says so, by its `type`
abbrev pub RowSays : Data → Line → Type 0
RowSays value line = SaysBy (line_kind value) value line

-- the bytes are the text of an object that says so; or they are that of none, and the line says nothing
abbrev pub SaysQueryLine : List ℕ → Line → Type 0
SaysQueryLine text line =
    ((members : Members) × IsLineObject text members × RowSays (object members) line)
    ⊎ (((members : Members) → ¬ IsLineObject text members) × (line ≡ Other))
