-- What a row of an answer says of its change, in the terms of Gerrit's JSON ("JSON Data"), and that a record says it.
use Rattle.std.specs.Prelude.{◌≡◌, ◌⊎◌, ◌∷◌, ◌++◌, ℕ, ℤ, pos, negsuc, Any, Bool, List, true, false, filter_map, map}
use Rattle.std.specs.Prelude.{Some, codes, option_and_then, slice_get}
use Rattle.std.specs.Char.{to_ascii_lowercase}
use Rattle.std.specs.Str.{bytes_eq}
use Rattle.serde_json.specs.Data.{Data}
use Rattle.serde_json.specs.Find.{as_bool, get}
use Rattle.review_ops.specs.Deed.{vote, withdraw}
use Rattle.review_ops.specs.Good.{IsFaultless, IsGood}
use Rattle.change_core.specs.Views.{status_of}
use Rattle.change_core.specs.declared.life.Status.{Status}
use Rattle.change_core.specs.declared.life.Status.TheVariants.{New, Abandoned, Merged}
use Rattle.state_core.specs.State.{State}
use Rattle.gerrit_events.specs.declared.kind.Kind.TheVariants.{QueryLine}
use Rattle.gerrit_events.specs.declared.mark.Mark.{Mark}
use Rattle.gerrit_events.specs.declared.mark.Mark.TheVariants.{WorkInProgress, Private, OutdatedParent}
use Rattle.gerrit_events.specs.Kinds.{approvals_part, line_kind}
use Rattle.gerrit_events.specs.Listings.{ballot_of, ballots_in, mark_ballots}
use Rattle.gerrit_events.specs.Marks.{mark_label, reserved_voter}
use Rattle.gerrit_events.specs.Messages.{kept_message}
use Rattle.gerrit_events.specs.Patches.{change_in, message_in, parents_in, set_in}
use Rattle.gerrit_events.specs.Projects.{Choice, feeds}
use Rattle.gerrit_events.specs.Revisions.{Revision}
use Rattle.gerrit_events.specs.Values.{listed_values, text_in, user_in, vote_value}
use Rattle.event_filter.specs.Bringing.{is_listed_vote}
use Rattle.event_filter.specs.Recorded.{HasPatch, change_at, score_at}

-- the line is a row of this change, whose current patch set is this one, and its project is fed
pub record IsFedRow (choice : Choice) (line : Data) (change set : ℕ) : Type 0 where
  pub kind : line_kind line ≡ Some QueryLine
  pub fed : feeds choice QueryLine line ≡ true
  pub of_change : change_in QueryLine line ≡ Some change
  pub of_set : set_in QueryLine line ≡ Some set

-- the row's status has this name
abbrev pub HasStatus : Data → List ℕ → Type 0
HasStatus line name = text_in (get (codes "status") line) ≡ Some name

-- the change has this status, or it is merged and stays so
abbrev pub IsOrMerged : State → ℕ → Status → Type 0
IsOrMerged state change status =
    (status_of (change_at state change) ≡ status) ⊎ (status_of (change_at state change) ≡ Merged)

-- an approval is a vote on this label by this voter, who isn't the reserved one, with this value
pub record IsApproval (approval : Data) (label voter : List ℕ) (value : ℤ) : Type 0 where
  pub on_label : text_in (get (codes "type") approval) ≡ Some label
  pub by_voter : user_in (get (codes "by") approval) ≡ Some voter
  pub real : bytes_eq voter reserved_voter ≡ false
  pub with_value : vote_value (get (codes "value") approval) ≡ Some value

-- a member of an object is this truth value
abbrev pub HasBool : Data → List ℕ → Bool → Type 0
HasBool attribute key is = option_and_then as_bool (get key attribute) ≡ Some is

-- the row says this of its change: it is a work in progress, it is private, or a patch set that it depends on isn't the
-- current one of its change
abbrev pub SaysMark : Data → Mark → Type 0
SaysMark line WorkInProgress = HasBool line (codes "wip") true
SaysMark line Private = HasBool line (codes "private") true
SaysMark line OutdatedParent =
    Any (λ parent. HasBool parent (codes "isCurrentPatchSet") false) (listed_values (get (codes "dependsOn") line))

-- the reserved voter's score on a mark's label
abbrev pub mark_score : State → ℕ → ℕ → Mark → ℤ
mark_score state change set mark =
    score_at (change_at state change) (record { set = set; label = mark_label mark; voter = reserved_voter })

-- the record says of the change what the row says: the commit of the current patch set, with what is kept of its
-- message; the status; each approval of the current patch set, of two of one voter on one label the last one; nobody
-- else has a score on it; and for each mark the reserved voter's -1, exactly if the row says it
pub record SaysRow (known : List Revision) (line : Data) (change set : ℕ) (state : State) : Type 0 where
  pub commit : (message : List ℕ) → message_in QueryLine line ≡ Some message
      → HasPatch (change_at state change) set
      (record { message = kept_message message; parent = slice_get (parents_in known QueryLine line) 0 })
  pub merged : HasStatus line (codes "MERGED") → status_of (change_at state change) ≡ Merged
  pub new : HasStatus line (codes "NEW") → IsOrMerged state change New
  pub abandoned : HasStatus line (codes "ABANDONED") → IsOrMerged state change Abandoned
  pub approvals : (before after : List Data) (approval : Data) (label voter : List ℕ) (value : ℤ)
      → listed_values (approvals_part QueryLine line) ≡ before ++ approval ∷ after
      → IsApproval approval label voter value
      → IsFaultless (vote change set label voter value)
      → is_listed_vote (filter_map ballot_of after) (map to_ascii_lowercase label) voter ≡ false
      → score_at (change_at state change) (record { set = set; label = map to_ascii_lowercase label; voter = voter })
      ≡ value
  pub others : (label voter : List ℕ) → IsGood (withdraw change set label voter)
      → is_listed_vote (ballots_in (approvals_part QueryLine line) ++ mark_ballots line) label voter ≡ false
      → score_at (change_at state change) (record { set = set; label = label; voter = voter }) ≡ pos 0
  pub marked : (mark : Mark) → SaysMark line mark → mark_score state change set mark ≡ negsuc 0
  pub unmarked : (mark : Mark) → ¬ SaysMark line mark → mark_score state change set mark ≡ pos 0
