-- What Gerrit says of a change beside its votes, as votes of a reserved voter on the patch set that is current while it
-- is so. The voter and the labels are the project's own; `wip`, `private` and `isCurrentPatchSet` are Gerrit's ("JSON
-- Data").
use Rattle.std.specs.Prelude.{ℕ, List, [], ◌∷◌, ◌++◌, Bool, true, false, Option, Some, if◌then◌else◌}
use Rattle.std.specs.Prelude.{option_and_then, codes}
use Rattle.std.specs.List.{list_any}
use Rattle.serde_json.specs.Data.{Data}
use Rattle.serde_json.specs.Find.{get, as_bool}
use Rattle.gerrit_events.specs.declared.kind.Kind.{Kind}
use Rattle.gerrit_events.specs.declared.kind.Kind.TheVariants.{QueryLine}
use Rattle.gerrit_events.specs.declared.mark.Mark.{Mark}
use Rattle.gerrit_events.specs.declared.mark.Mark.TheVariants.{WorkInProgress, Private, OutdatedParent}
use Rattle.gerrit_events.specs.Kinds.{change_part}
use Rattle.gerrit_events.specs.Values.{under, listed_values}

abbrev pub reserved_voter : List ℕ
reserved_voter = codes "gerrit"

abbrev pub mark_label : Mark → List ℕ
mark_label WorkInProgress = codes "work-in-progress"
mark_label Private = codes "private"
mark_label OutdatedParent = codes "outdated-parent"

-- a member is this truth value
abbrev pub is_bool : Bool → Option Bool → Bool
is_bool wanted (Some true) = wanted
is_bool true (Some false) = false
is_bool false (Some false) = true
is_bool wanted found = false

abbrev pub says : Bool → Option Data → Bool
says wanted found = is_bool wanted (option_and_then as_bool found)

-- the change is work in progress
abbrev pub is_wip : Kind → Data → Bool
is_wip kind line = says true (under (codes "wip") (change_part kind line))

-- the change is private
abbrev pub is_private : Kind → Data → Bool
is_private kind line = says true (under (codes "private") (change_part kind line))

-- a change that it depends on has a later patch set than the one that it is based on
abbrev pub is_outdated_on : Data → Bool
is_outdated_on parent = says false (get (codes "isCurrentPatchSet") parent)

abbrev pub has_outdated_parent : Data → Bool
has_outdated_parent line = list_any is_outdated_on (listed_values (get (codes "dependsOn") line))

-- events don't say that
abbrev pub is_outdated : Kind → Data → Bool
is_outdated QueryLine line = has_outdated_parent line
is_outdated kind line = false

abbrev pub if_so : Bool → Mark → List Mark
if_so is mark = if is then mark ∷ [] else []

-- what is so of the change: for each the reserved voter votes -1
abbrev pub marks_in : Kind → Data → List Mark
marks_in kind line =
    (if_so (is_wip kind line) WorkInProgress ++ if_so (is_private kind line) Private)
    ++ if_so (is_outdated kind line) OutdatedParent
