-- Which projects are fed: all, or those that are named ("JSON Data": `project` of a change).
use Rattle.std.specs.Prelude.{ℕ, List, Bool, true, false, Option, Some, None, codes}
use Rattle.std.specs.List.{list_any}
use Rattle.std.specs.Str.{bytes_eq}
use Rattle.serde_json.specs.Data.{Data}
use Rattle.serde_json.specs.Find.{get}
use Rattle.gerrit_events.specs.declared.kind.Kind.{Kind}
use Rattle.gerrit_events.specs.Kinds.{change_part}
use Rattle.gerrit_events.specs.Values.{text_in}

-- the names, or none where all projects are fed
abbrev pub Choice : Type 0
Choice = Option (List (List ℕ))

abbrev pub has_project : Choice → List ℕ → Bool
has_project None name = true
has_project (Some names) name = list_any (bytes_eq name) names

-- a change whose project isn't said is of none
abbrev pub feeds_named : Choice → Option (List ℕ) → Bool
feeds_named None None = true
feeds_named (Some names) None = false
feeds_named choice (Some name) = has_project choice name

-- a line without a change is of no project, and is read
abbrev pub feeds_change : Choice → Option Data → Bool
feeds_change choice None = true
feeds_change choice (Some change) = feeds_named choice (text_in (get (codes "project") change))

abbrev pub feeds : Choice → Kind → Data → Bool
feeds choice kind line = feeds_change choice (change_part kind line)
