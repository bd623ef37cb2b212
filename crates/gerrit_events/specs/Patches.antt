-- Which patch set a line brings, and its Git parent.
use Rattle.std.specs.Prelude.{ℕ, ◌==◌, ◌&&◌, List, [], ◌++◌, filter_map, Bool, false, if◌then◌else◌, Option, Some, None}
use Rattle.std.specs.Prelude.{option_and_then, option_map, codes}
use Rattle.std.specs.Option.{unwrap_or}
use Rattle.serde_json.specs.Data.{Data}
use Rattle.serde_json.specs.Find.{get, as_str}
use Rattle.gerrit_events.specs.declared.kind.Kind.{Kind}
use Rattle.gerrit_events.specs.declared.kind.Kind.TheVariants.{PatchSetCreated, DroppedOutput, QueryLine, QueryStats}
use Rattle.gerrit_events.specs.declared.kind.Kind.TheVariants.{QueryError}
use Rattle.gerrit_events.specs.Kinds.{change_part, set_part}
use Rattle.gerrit_events.specs.Revisions.{Revision, revision_place, with_revision}
use Rattle.gerrit_events.specs.Values.{under, text_in, number_value, listed_values}

abbrev pub change_in : Kind → Data → Option ℕ
change_in kind line = number_value (under (codes "number") (change_part kind line))

abbrev pub set_in : Kind → Data → Option ℕ
set_in kind line = number_value (under (codes "number") (set_part kind line))

abbrev pub message_in : Kind → Data → Option (List ℕ)
message_in kind line = text_in (under (codes "commitMessage") (change_part kind line))

-- the project of the change; where it isn't said, the empty text
abbrev pub project_in : Kind → Data → List ℕ
project_in kind line = unwrap_or (text_in (under (codes "project") (change_part kind line))) []

-- a revision is a commit in a project: one commit may be a patch set in several
abbrev pub revision_of : List ℕ → List ℕ → List ℕ
revision_of project commit = project ++ (codes "\n" ++ commit)

abbrev pub revision_in : Kind → Data → Option (List ℕ)
revision_in kind line =
    option_map (revision_of (project_in kind line)) (text_in (under (codes "revision") (set_part kind line)))

-- a patch set as a line shows it
pub record ShownPatch : Type 0 where
  pub change : ℕ
  pub set : ℕ
  pub message : List ℕ
  pub revision : Option (List ℕ)

-- the patch set of a line, where it has all that is needed: two numbers and the message
abbrev pub patch_in : Kind → Data → Option ShownPatch
patch_in kind line =
    option_and_then (λ change.
    option_and_then (λ set.
    option_map (λ message. record { change = change; set = set; message = message; revision = revision_in kind line })
    (message_in kind line))
    (set_in kind line))
    (change_in kind line)

-- ---- what was brought before

abbrev pub is_at : ℕ → ℕ → Option (ℕ × ℕ) → Bool
is_at change set None = false
is_at change set (Some place) = (place.0 == change) && (place.1 == set)

-- this run has brought the patch set: its revision is known as that of it
abbrev pub was_brought : List Revision → ShownPatch → Bool
was_brought known patch = is_at patch.change patch.set (option_and_then (revision_place known) patch.revision)

abbrev pub unless_brought : List Revision → ShownPatch → Option ShownPatch
unless_brought known patch = if was_brought known patch then None else Some patch

-- the patch set that a line brings: a new one and that of a query always, that of another event where it wasn't brought
abbrev pub brought_by : List Revision → Kind → Data → Option ShownPatch
brought_by known PatchSetCreated line = patch_in PatchSetCreated line
brought_by known QueryLine line = patch_in QueryLine line
brought_by known DroppedOutput line = None
brought_by known QueryStats line = None
brought_by known QueryError line = None
brought_by known kind line = option_and_then (unless_brought known) (patch_in kind line)

abbrev pub with_shown : List Revision → ℕ × ℕ → Option (List ℕ) → List Revision
with_shown known place None = known
with_shown known place (Some revision) = with_revision known (revision, place)

-- what is known after it was brought
abbrev pub learned : List Revision → ShownPatch → List Revision
learned known patch = with_shown known (patch.change, patch.set) patch.revision

abbrev pub patches_after : List Revision → Option ShownPatch → List Revision
patches_after known None = known
patches_after known (Some patch) = learned known patch

-- ---- the parent

-- the attributes that name parents: in a query the changes that it depends on, in an event the parents' revisions
abbrev pub parents_part : Kind → Data → List Data
parents_part QueryLine line = listed_values (get (codes "dependsOn") line)
parents_part kind line = listed_values (under (codes "parents") (set_part kind line))

-- the change of a commit in a project, where it is known
abbrev pub change_of_commit : List Revision → List ℕ → Option (List ℕ) → Option ℕ
change_of_commit known project commit =
    option_map (λ place. place.0) (option_and_then (revision_place known) (option_map (revision_of project) commit))

-- the change of such a parent, where it is known; a parent is a commit in the project of the change
abbrev pub parent_in : List Revision → List ℕ → Kind → Data → Option ℕ
parent_in known project QueryLine parent = number_value (get (codes "number") parent)
parent_in known project kind parent = change_of_commit known project (as_str parent)

abbrev pub parents_in : List Revision → Kind → Data → List ℕ
parents_in known kind line = filter_map (parent_in known (project_in kind line) kind) (parents_part kind line)
