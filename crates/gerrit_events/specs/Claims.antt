-- What a line claims: the bodies that it spells, in order, and what is lost of it. Events: Gerrit's "stream-events";
-- approvals, accounts and dependencies: "JSON Data"; lines of a query: "query". The order is the project's own.
use Rattle.std.specs.Prelude.{ℕ, ◌-◌, ◌==◌, ℤ, pos, negsuc, Bool, true, false, List, [], ◌∷◌, ◌++◌, length, map, flat_map}
use Rattle.std.specs.Prelude.{take, slice_get, replicate, if◌then◌else◌, Option, Some, None, is_some, codes}
use Rattle.std.specs.Str.{bytes_eq}
use Rattle.serde_json.specs.Data.{Data}
use Rattle.serde_json.specs.Find.{get}
use Rattle.review_ops.specs.Deed.{Deed, patch_set, vote, withdraw, abandon, restore, merged}
use Rattle.gerrit_events.specs.declared.fault.EventFault.{EventFault}
use Rattle.gerrit_events.specs.declared.fault.EventFault.TheVariants.{BadEvent, Dropped}
use Rattle.gerrit_events.specs.declared.fault.EventKey.{EventKey}
use Rattle.gerrit_events.specs.declared.fault.EventKey.TheVariants.{TypeName, CommitMessage, Parents, Value, PatchSets}
use Rattle.gerrit_events.specs.declared.fault.EventKey.TheVariants.{DependsOn, Status, Username}
use Rattle.gerrit_events.specs.declared.kind.Kind.{Kind}
use Rattle.gerrit_events.specs.declared.kind.Kind.TheVariants.{PatchSetCreated, ChangeAbandoned, ChangeRestored}
use Rattle.gerrit_events.specs.declared.kind.Kind.TheVariants.{ChangeMerged, ChangeDeleted, WipStateChanged}
use Rattle.gerrit_events.specs.declared.kind.Kind.TheVariants.{PrivateStateChanged, DroppedOutput, QueryLine}
use Rattle.gerrit_events.specs.declared.kind.Kind.TheVariants.{QueryStats, QueryError, OtherEvent}
use Rattle.gerrit_events.specs.declared.mark.Mark.{Mark}
use Rattle.gerrit_events.specs.declared.mark.Mark.TheVariants.{WorkInProgress, Private}
use Rattle.gerrit_events.specs.Kinds.{account_part, account_key, approvals_part, change_key, set_key}
use Rattle.gerrit_events.specs.Listings.{Ballot, Listing, ballots_in, mark_ballots}
use Rattle.gerrit_events.specs.Marks.{is_private, is_wip, mark_label, marks_in, reserved_voter}
use Rattle.gerrit_events.specs.Messages.{has_lost_footers, kept_message}
use Rattle.gerrit_events.specs.Patches.{ShownPatch, change_in, set_in, brought_by, parents_part, parents_in}
use Rattle.gerrit_events.specs.Revisions.{Revision}
use Rattle.gerrit_events.specs.Values.{text_in, number_value, vote_value, user_in, listed_values}

pub data Claim : Type 0 where
  -- a body, good or not
  drafts : Deed → Claim
  -- a patch set, good or not, as an event shows it, which can't tell which change its parent is; or that there is no
  -- vote, where the event doesn't say that it was taken back
  shows : Deed → Claim
  -- all votes of a patch set
  lists : Listing → Claim
  -- something that is lost
  refuses : EventFault → Claim

abbrev pub bad : EventKey → Claim
bad key = refuses (BadEvent key)

-- ---- patch sets

-- the key that names parents
abbrev pub parents_key : Kind → EventKey
parents_key QueryLine = DependsOn
parents_key kind = Parents

-- how many parents are lost beside the first that is known: in a query those without a number, too
abbrev pub lost_parents : List Revision → Kind → Data → ℕ
lost_parents known QueryLine line =
    length (parents_part QueryLine line) - length (take 1 (parents_in known QueryLine line))
lost_parents known kind line = length (parents_in known kind line) - 1

-- the patch set of a query is drafted, and that of an event shown: which change its parent is only Gerrit can say, where
-- a commit is a patch set of two
abbrev pub patch_claim : Kind → Deed → Claim
patch_claim QueryLine deed = drafts deed
patch_claim kind deed = shows deed

abbrev pub patch_deed : ShownPatch → Option ℕ → Deed
patch_deed patch parent = patch_set patch.change patch.set (kept_message patch.message) parent

-- the reserved voter's vote
abbrev pub mark_claim : ℕ → ℕ → Mark → Claim
mark_claim change set mark = drafts (vote change set (mark_label mark) reserved_voter (negsuc 0))

-- a patch set that an event brings has the marks of its change; a query's are listed with the votes
abbrev pub patch_marks : Kind → Data → ShownPatch → List Claim
patch_marks QueryLine line patch = []
patch_marks kind line patch = map (mark_claim patch.change patch.set) (marks_in kind line)

-- that footers of a message are lost
abbrev pub lost_footers : Bool → List Claim
lost_footers are_lost = if are_lost then bad CommitMessage ∷ [] else []

-- a patch set with its first known parent, and what is lost of it
abbrev pub patch_claims : List Revision → Kind → Data → ShownPatch → List Claim
patch_claims known kind line patch =
    patch_claim kind (patch_deed patch (slice_get (parents_in known kind line) 0))
    ∷ (lost_footers (has_lost_footers patch.message)
    ++ (replicate (lost_parents known kind line) (bad (parents_key kind)) ++ patch_marks kind line patch))

-- a new patch set and one of a query have a message
abbrev pub without_patch : Kind → List Claim
without_patch PatchSetCreated = bad CommitMessage ∷ []
without_patch QueryLine = bad CommitMessage ∷ []
without_patch kind = []

abbrev pub brought_claims : List Revision → Kind → Data → Option ShownPatch → List Claim
brought_claims known kind line None = without_patch kind
brought_claims known kind line (Some patch) = patch_claims known kind line patch

abbrev pub first_claims : List Revision → Kind → Data → List Claim
first_claims known kind line = brought_claims known kind line (brought_by known kind line)

-- ---- votes: a value of 0 and a missing one withdraw, if the approval has an old value

abbrev pub is_zero : ℤ → Bool
is_zero (pos n) = n == 0
is_zero (negsuc n) = false

-- an event has an old value where it took a vote back; that of a push has 0 for each other label, also where Gerrit has
-- copied a vote to the new patch set, so that a 0 alone withdraws nothing
abbrev pub unvoted : Bool → Deed → Claim
unvoted true deed = drafts deed
unvoted false deed = shows deed

abbrev pub vote_of : ℕ → ℕ → List ℕ → List ℕ → Bool → Option (Option ℤ) → Claim
vote_of change set label voter is_taken_back None = unvoted is_taken_back (withdraw change set label voter)
vote_of change set label voter is_taken_back (Some None) = bad Value
vote_of change set label voter is_taken_back (Some (Some value)) =
    if is_zero value then unvoted is_taken_back (withdraw change set label voter)
    else drafts (vote change set label voter value)

-- whether the approval takes a vote back that has no value any more; those of a row say what is so
abbrev pub is_taken_back : Kind → Data → Bool
is_taken_back QueryLine approval = true
is_taken_back kind approval = is_some (get (codes "oldValue") approval)

abbrev pub value_under : Option Data → Option (Option ℤ)
value_under None = None
value_under (Some d) = Some (vote_value (Some d))

abbrev pub voted : ℕ → ℕ → EventKey → Option (List ℕ) → Option (List ℕ) → Bool → Option (Option ℤ) → Claim
voted change set key None user is_taken_back value = bad TypeName
voted change set key (Some label) None is_taken_back value = bad key
voted change set key (Some label) (Some voter) is_taken_back value =
    if bytes_eq voter reserved_voter then bad Username else vote_of change set label voter is_taken_back value

-- what an approval claims
abbrev pub vote_claim : Kind → Data → ℕ → ℕ → Data → Claim
vote_claim kind line change set approval =
    voted change set (account_key kind) (text_in (get (codes "type") approval))
    (user_in (account_part kind line approval)) (is_taken_back kind approval)
    (value_under (get (codes "value") approval))

abbrev pub vote_claims : Kind → Data → ℕ → ℕ → Option Data → List Claim
vote_claims kind line change set approvals = map (vote_claim kind line change set) (listed_values approvals)

-- ---- a query

-- all votes of a patch set, and then each of them
abbrev pub listed_claims : ℕ → ℕ → Data → Option Data → List Ballot → List Claim
listed_claims change set line approvals marks =
    lists (record { change = change; set = set; ballots = ballots_in approvals ++ marks })
    ∷ vote_claims QueryLine line change set approvals

-- of a patch set that isn't the current one the approvals alone
abbrev pub older_by : Data → Data → ℕ → ℕ → Option ℕ → List Claim
older_by line older change current None = bad PatchSets ∷ []
older_by line older change current (Some set) =
    if set == current then [] else listed_claims change set line (get (codes "approvals") older) []

abbrev pub older_claims : Data → ℕ → ℕ → Data → List Claim
older_claims line change current older = older_by line older change current (number_value (get (codes "number") older))

-- that a change is closed is claimed first of a row, so that a row that is taken up in part never opens one
abbrev pub closing_named : ℕ → List ℕ → List Claim
closing_named change name =
    if bytes_eq name (codes "ABANDONED") then drafts (abandon change) ∷ [] else
    if bytes_eq name (codes "MERGED") then drafts (merged change) ∷ [] else []

abbrev pub closing_claims : ℕ → Option (List ℕ) → List Claim
closing_claims change None = []
closing_claims change (Some name) = closing_named change name

-- and that it is open, last
abbrev pub opening_named : ℕ → List ℕ → List Claim
opening_named change name = if bytes_eq name (codes "NEW") then drafts (restore change) ∷ [] else []

abbrev pub opening_claims : ℕ → Option (List ℕ) → List Claim
opening_claims change None = bad Status ∷ []
opening_claims change (Some name) = opening_named change name

abbrev pub status_part : Data → Option (List ℕ)
status_part line = text_in (get (codes "status") line)

-- the current patch set with its marks, the older ones, and that the change is open
abbrev pub query_claims : Data → ℕ → ℕ → List Claim
query_claims line change set =
    listed_claims change set line (approvals_part QueryLine line) (mark_ballots line)
    ++ (map (mark_claim change set) (marks_in QueryLine line)
    ++ (flat_map (older_claims line change set) (listed_values (get (codes "patchSets") line))
    ++ opening_claims change (status_part line)))

-- ---- a state that changed: the reserved voter votes while it is so, and withdraws after

abbrev pub state_claim : ℕ → ℕ → Mark → Bool → Claim
state_claim change set mark is =
    if is then mark_claim change set mark else drafts (withdraw change set (mark_label mark) reserved_voter)

-- ---- the table

-- what is claimed of a patch set beside itself
abbrev pub set_claims : Kind → Data → ℕ → ℕ → List Claim
set_claims PatchSetCreated line change set = []
set_claims QueryLine line change set = query_claims line change set
set_claims WipStateChanged line change set =
    state_claim change set WorkInProgress (is_wip WipStateChanged line) ∷ []
set_claims PrivateStateChanged line change set =
    state_claim change set Private (is_private PrivateStateChanged line) ∷ []
set_claims kind line change set = vote_claims kind line change set (approvals_part kind line)

abbrev pub with_set : List Revision → Kind → Data → ℕ → Option ℕ → List Claim
with_set known kind line change None = bad (set_key kind) ∷ []
with_set known kind line change (Some set) = first_claims known kind line ++ set_claims kind line change set

abbrev pub change_claims : List Revision → Kind → Data → ℕ → List Claim
change_claims known ChangeAbandoned line change =
    first_claims known ChangeAbandoned line ++ drafts (abandon change) ∷ []
change_claims known ChangeDeleted line change =
    first_claims known ChangeDeleted line ++ drafts (abandon change) ∷ []
change_claims known ChangeRestored line change =
    first_claims known ChangeRestored line ++ drafts (restore change) ∷ []
change_claims known ChangeMerged line change =
    first_claims known ChangeMerged line ++ drafts (merged change) ∷ []
change_claims known QueryLine line change =
    closing_claims change (status_part line) ++ with_set known QueryLine line change (set_in QueryLine line)
change_claims known kind line change = with_set known kind line change (set_in kind line)

abbrev pub with_change : List Revision → Kind → Data → Option ℕ → List Claim
with_change known kind line None = bad (change_key kind) ∷ []
with_change known kind line (Some change) = change_claims known kind line change

-- what a line of this kind claims
abbrev pub claims_by : List Revision → Kind → Data → List Claim
claims_by known DroppedOutput line = refuses Dropped ∷ []
claims_by known QueryStats line = []
claims_by known QueryError line = []
claims_by known OtherEvent line = first_claims known OtherEvent line
claims_by known kind line = with_change known kind line (change_in kind line)
