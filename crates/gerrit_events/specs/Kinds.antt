-- The kinds of lines: Gerrit's events ("stream-events"), and the lines of its query ("query").
use Rattle.std.specs.Prelude.{ℕ, List, if◌then◌else◌, Option, Some, None, option_and_then, option_map, codes}
use Rattle.std.specs.Str.{bytes_eq}
use Rattle.serde_json.specs.Data.{Data}
use Rattle.serde_json.specs.Find.{get, as_str}
use Rattle.gerrit_events.specs.declared.fault.EventKey.{EventKey}
use Rattle.gerrit_events.specs.declared.fault.EventKey.TheVariants.{Change, PatchSet, Author, Reviewer, By, Number}
use Rattle.gerrit_events.specs.declared.fault.EventKey.TheVariants.{CurrentPatchSet}
use Rattle.gerrit_events.specs.declared.kind.Kind.{Kind}
use Rattle.gerrit_events.specs.declared.kind.Kind.TheVariants.{PatchSetCreated, CommentAdded, VoteDeleted}
use Rattle.gerrit_events.specs.declared.kind.Kind.TheVariants.{ReviewerDeleted, ChangeAbandoned, ChangeRestored}
use Rattle.gerrit_events.specs.declared.kind.Kind.TheVariants.{ChangeMerged, ChangeDeleted, WipStateChanged}
use Rattle.gerrit_events.specs.declared.kind.Kind.TheVariants.{PrivateStateChanged, DroppedOutput, QueryLine}
use Rattle.gerrit_events.specs.declared.kind.Kind.TheVariants.{QueryStats, QueryError, OtherEvent}

-- the kind that the `type` of a line names
abbrev pub kind_named : List ℕ → Kind
kind_named name =
    if bytes_eq name (codes "patchset-created") then PatchSetCreated else
    if bytes_eq name (codes "comment-added") then CommentAdded else
    if bytes_eq name (codes "vote-deleted") then VoteDeleted else
    if bytes_eq name (codes "reviewer-deleted") then ReviewerDeleted else
    if bytes_eq name (codes "change-abandoned") then ChangeAbandoned else
    if bytes_eq name (codes "change-restored") then ChangeRestored else
    if bytes_eq name (codes "change-merged") then ChangeMerged else
    if bytes_eq name (codes "change-deleted") then ChangeDeleted else
    if bytes_eq name (codes "wip-state-changed") then WipStateChanged else
    if bytes_eq name (codes "private-state-changed") then PrivateStateChanged else
    if bytes_eq name (codes "dropped-output") then DroppedOutput else
    if bytes_eq name (codes "stats") then QueryStats else
    if bytes_eq name (codes "error") then QueryError else OtherEvent

-- a line of a query has no `type`; a `type` that is no text says nothing
abbrev pub kind_by : Option Data → Option Kind
kind_by None = Some QueryLine
kind_by (Some d) = option_map kind_named (as_str d)

abbrev pub line_kind : Data → Option Kind
line_kind line = kind_by (get (codes "type") line)

-- ---- where the attributes are: a line of a query is itself a change attribute

-- the change attribute
abbrev pub change_part : Kind → Data → Option Data
change_part QueryLine line = Some line
change_part kind line = get (codes "change") line

-- the patch set attribute
abbrev pub set_part : Kind → Data → Option Data
set_part QueryLine line = get (codes "currentPatchSet") line
set_part kind line = get (codes "patchSet") line

-- the account attribute of one who voted; in a query each approval has its own
abbrev pub account_part : Kind → Data → Data → Option Data
account_part QueryLine line approval = get (codes "by") approval
account_part CommentAdded line approval = get (codes "author") line
account_part kind line approval = get (codes "reviewer") line

-- the attribute with the approvals of the patch set
abbrev pub approvals_part : Kind → Data → Option Data
approvals_part QueryLine line = option_and_then (get (codes "approvals")) (get (codes "currentPatchSet") line)
approvals_part kind line = get (codes "approvals") line

-- ---- the keys that are named where a part is missing

abbrev pub change_key : Kind → EventKey
change_key QueryLine = Number
change_key kind = Change

abbrev pub set_key : Kind → EventKey
set_key QueryLine = CurrentPatchSet
set_key kind = PatchSet

abbrev pub account_key : Kind → EventKey
account_key QueryLine = By
account_key CommentAdded = Author
account_key kind = Reviewer
