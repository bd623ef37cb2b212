-- What a row says is what the record says.
use Rattle.std.specs.Prelude.{◌≡◌, ◌≢◌, ◌⊎◌, ◌||◌, ◌&&◌, ◌≤◌, ◌<◌, ◌^◌, int_le, ℕ, zero, suc, ℤ, pos, negsuc, Bool}
use Rattle.std.specs.Prelude.{true, false, List, [], ◌∷◌, ◌++◌, if◌then◌else◌, filter_map, flat_map, map, replicate}
use Rattle.std.specs.Prelude.{slice_get, Option, Some, None, IfSome, codes, option_and_then, option_map}
use Rattle.std.specs.Char.{to_ascii_lowercase}
use Rattle.std.specs.List.{cons_option}
use Rattle.std.specs.Str.{bytes_eq}
use Rattle.std.proofs.Common.{refl, sym, ap, ◌∙◌, subst, inl, inr, append_assoc, arith}
use Rattle.std.proofs.lemmas.Bool.{eqb-true, false≢true, leb-true}
use Rattle.std.proofs.lemmas.List.{map-append}
use Rattle.std.proofs.lemmas.Bool.Decides.{eqb_tells}
use Rattle.std.proofs.lemmas.List.Folds.{list_any-append}
use Rattle.std.proofs.lemmas.Slice.Eq.{bytes_eq-Decides}
use Rattle.serde_json.specs.Data.{Data}
use Rattle.serde_json.specs.Find.{get}
use Rattle.review_ops.specs.Deed.{Deed, abandon, merged, patch_set, restore, vote, withdraw, kept_deed}
use Rattle.review_ops.specs.Good.{IsFaultless, IsGood, IsNumber}
use Rattle.change_core.specs.Slots.{Slot}
use Rattle.change_core.specs.Views.{status_of}
use Rattle.change_core.specs.declared.life.Status.{Status}
use Rattle.change_core.specs.declared.life.Status.TheVariants.{New, Abandoned, Merged}
use Rattle.state_core.specs.State.{State}
use Rattle.gerrit_events.specs.declared.fault.EventKey.{EventKey}
use Rattle.gerrit_events.specs.declared.fault.EventKey.TheVariants.{By, DependsOn, Username}
use Rattle.gerrit_events.specs.declared.finding.Finding.{Finding}
use Rattle.gerrit_events.specs.declared.kind.Kind.TheVariants.{QueryLine}
use Rattle.gerrit_events.specs.declared.mark.Mark.{Mark}
use Rattle.gerrit_events.specs.Claims.{Claim, drafts, lists, bad, brought_claims, claims_by, closing_claims}
use Rattle.gerrit_events.specs.Claims.{closing_named, first_claims, is_zero, listed_claims, lost_footers, lost_parents}
use Rattle.gerrit_events.specs.Claims.{mark_claim, older_by, older_claims, opening_claims, opening_named, query_claims}
use Rattle.gerrit_events.specs.Claims.{status_part, value_under, vote_claim, vote_claims, vote_of, voted, with_change}
use Rattle.gerrit_events.specs.Claims.{with_set}
use Rattle.gerrit_events.specs.Kinds.{approvals_part, change_part, line_kind, set_part}
use Rattle.gerrit_events.specs.Listings.{Ballot, ballot_by, ballot_of, ballots_in, mark_ballot, mark_ballots}
use Rattle.gerrit_events.specs.Marks.{mark_label, marks_in, reserved_voter}
use Rattle.gerrit_events.specs.Messages.{has_lost_footers, kept_message}
use Rattle.gerrit_events.specs.Patches.{ShownPatch, brought_by, message_in, parent_in, parents_in, parents_part, patch_in}
use Rattle.gerrit_events.specs.Patches.{project_in, revision_in, set_in}
use Rattle.gerrit_events.specs.Projects.{Choice}
use Rattle.gerrit_events.specs.Reading.{ClaimsAreSettled, claims_of}
use Rattle.gerrit_events.specs.Revisions.{Revision}
use Rattle.gerrit_events.specs.Values.{listed_values, number_value, text_in, under, unsigned_of, user_in, vote_value, whole_in}
use Rattle.gerrit_events.specs.Values.{within}
use Rattle.event_filter.specs.Bringing.{IsSaidByRecord, is_ballot_of, is_listed_vote}
use Rattle.event_filter.specs.Recorded.{HasPatch, IsRecorded, change_at, score_at}
use Rattle.event_filter.specs.Rows.{HasStatus, IsApproval, IsFedRow, SaysMark, SaysRow, mark_score}
use Rattle.event_filter.specs.Truth.{AgreesWithAll, DeedPlace, patch_place, place_written, score_place, status_place}
use Rattle.event_filter.proofs.Marks.{last_mark, lower_mark, mark_faultless, mark_good, said_listed, silent_unlisted}
use Rattle.event_filter.proofs.Messages.{kept_fits}
use Rattle.event_filter.proofs.Truth.{one_slot}
use Rattle.event_filter.proofs.Speaking.{AllOnly, Only, draft_said, only_append, only_weaker, unlisted_said}

-- ---- of what each part of a row's claims speaks

-- a score of one who is listed by approvals of a patch set
abbrev Listed : ℕ → ℕ → List Data → DeedPlace → Type 0
Listed change set approvals place =
    (label voter : List ℕ) × (score_place change (record { set = set; label = label; voter = voter }) ≡ place)
    × (is_listed_vote (filter_map ballot_of approvals) label voter ≡ true)

abbrev Marked : ℕ → ℕ → List Mark → DeedPlace → Type 0
Marked change set marks place =
    (label : List ℕ) × (score_place change (record { set = set; label = label; voter = reserved_voter }) ≡ place)
    × (is_listed_vote (map mark_ballot marks) label reserved_voter ≡ true)

abbrev OtherSet : ℕ → ℕ → DeedPlace → Type 0
OtherSet change set place = (slot : Slot) × (score_place change slot ≡ place) × (slot.set ≢ set)

same_text : (text : List ℕ) → bytes_eq text text ≡ true
same_text text = (bytes_eq-Decides text text).1 refl

self_ballot : (ballot : Ballot) → is_ballot_of ballot.label ballot.voter ballot ≡ true
self_ballot ballot =
    ap (λ t. t && bytes_eq ballot.voter ballot.voter) (same_text ballot.label) ∙ same_text ballot.voter

or_true : (a b : Bool) → b ≡ true → (a || b) ≡ true
or_true true b e = refl
or_true false b e = e

first_listed : (ballot : Ballot) (ballots : List Ballot) → is_listed_vote (ballot ∷ ballots) ballot.label ballot.voter ≡ true
first_listed ballot ballots = ap (λ t. t || is_listed_vote ballots ballot.label ballot.voter) (self_ballot ballot)

one_listed : (found : Option Ballot) (ballot : Ballot) (ballots : List Ballot) → found ≡ Some ballot
    → is_listed_vote (cons_option found ballots) ballot.label ballot.voter ≡ true
one_listed found ballot ballots e =
    ap (λ o. is_listed_vote (cons_option o ballots) ballot.label ballot.voter) e ∙ first_listed ballot ballots

later_listed : (found : Option Ballot) (ballots : List Ballot) (label voter : List ℕ)
    → is_listed_vote ballots label voter ≡ true → is_listed_vote (cons_option found ballots) label voter ≡ true
later_listed None ballots label voter e = e
later_listed (Some ballot) ballots label voter e = or_true (is_ballot_of label voter ballot) (is_listed_vote ballots label voter) e

-- ---- votes

vote_of_only : (change set : ℕ) (label voter : List ℕ) (value : Option (Option ℤ))
    → Only (λ place. score_place change (record { set = set; label = map to_ascii_lowercase label; voter = voter }) ≡ place) (vote_of change set label voter true value)
vote_of_only change set label voter None = λ place speaks. speaks
vote_of_only change set label voter (Some None) = λ place speaks. absurd speaks
vote_of_only change set label voter (Some (Some value)) =
    elim (is_zero value) as (λ t. Only (λ place. score_place change (record { set = set; label = map to_ascii_lowercase label; voter = voter }) ≡ place) (if t then drafts (withdraw change set label voter) else drafts (vote change set label voter value))) [ true ↦ λ place speaks. speaks | false ↦ λ place speaks. speaks ]

abbrev Balloted : ℕ → ℕ → Option Ballot → DeedPlace → Type 0
Balloted change set found place =
    (ballot : Ballot) × (score_place change (record { set = set; label = ballot.label; voter = ballot.voter }) ≡ place)
    × (found ≡ Some ballot)

voted_only : (change set : ℕ) (key : EventKey) (label user : Option (List ℕ)) (value : Option (Option ℤ))
    → Only (Balloted change set (ballot_by label user)) (voted change set key label user true value)
voted_only change set key None user value = λ place speaks. absurd speaks
voted_only change set key (Some label) None value = λ place speaks. absurd speaks
voted_only change set key (Some label) (Some voter) value =
    elim (bytes_eq voter reserved_voter) as (λ t. Only (Balloted change set (if t then None else Some (record { label = map to_ascii_lowercase label; voter = voter }))) (if t then bad Username else vote_of change set label voter true value)) [
      | true ↦ λ place speaks. absurd speaks
      | false ↦ λ place speaks. (_, vote_of_only change set label voter value place speaks, refl)
    ]

votes_only : (line : Data) (change set : ℕ) (approvals : List Data)
    → AllOnly (Listed change set approvals) (map (vote_claim QueryLine line change set) approvals)
votes_only line change set [] = tt
votes_only line change set (approval ∷ approvals) = (
  λ place speaks.
      let is = voted_only change set By (text_in (get (codes "type") approval)) (user_in (get (codes "by") approval)) (value_under (get (codes "value") approval)) place speaks in
      (is.0.label, is.0.voter, is.1, one_listed (ballot_of approval) is.0 (filter_map ballot_of approvals) is.2),
  only_weaker (Listed change set approvals) (Listed change set (approval ∷ approvals))
      (λ place is. (is.0, is.1, is.2, later_listed (ballot_of approval) (filter_map ballot_of approvals) is.0 is.1 is.3))
      (map (vote_claim QueryLine line change set) approvals) (votes_only line change set approvals),
)

-- ---- marks

marks_only : (change set : ℕ) (marks : List Mark)
    → AllOnly (Marked change set marks) (map (mark_claim change set) marks)
marks_only change set [] = tt
marks_only change set (mark ∷ marks) = (
  λ place speaks. (
    mark_label mark,
    ap (λ label. score_place change (record { set = set; label = label; voter = reserved_voter })) (sym (lower_mark mark)) ∙ speaks,
    first_listed (mark_ballot mark) (map mark_ballot marks),
  ),
  only_weaker (Marked change set marks) (Marked change set (mark ∷ marks))
      (λ place is. (is.0, is.1, or_true (is_ballot_of is.0 reserved_voter (mark_ballot mark)) (is_listed_vote (map mark_ballot marks) is.0 reserved_voter) is.2))
      (map (mark_claim change set) marks) (marks_only change set marks),
)

-- ---- other patch sets

older_only : (line older : Data) (change current : ℕ) (set : Option ℕ)
    → AllOnly (OtherSet change current) (older_by line older change current set)
older_only line older change current None = (λ place speaks. absurd speaks, tt)
older_only line older change current (Some set) = elim (eqb_tells set current) [
  | inl same ↦
      subst (λ t. AllOnly (OtherSet change current) (if t then [] else listed_claims change set line (get (codes "approvals") older) [])) (sym same.0) tt
  | inr other ↦
      subst (λ t. AllOnly (OtherSet change current) (if t then [] else listed_claims change set line (get (codes "approvals") older) [])) (sym other.0) (
        λ place speaks. (speaks.0, speaks.2, λ is. other.1 (sym speaks.1 ∙ is)),
        only_weaker (Listed change set (listed_values (get (codes "approvals") older))) (OtherSet change current)
            (λ place is. (record { set = set; label = is.0; voter = is.1 }, is.2, other.1))
            (vote_claims QueryLine line change set (get (codes "approvals") older))
            (votes_only line change set (listed_values (get (codes "approvals") older))),
      )
]

olders_only : (line : Data) (change current : ℕ) (olders : List Data)
    → AllOnly (OtherSet change current) (flat_map (older_claims line change current) olders)
olders_only line change current [] = tt
olders_only line change current (older ∷ olders) =
    only_append (OtherSet change current) (older_claims line change current older)
    (flat_map (older_claims line change current) olders)
    (older_only line older change current (number_value (get (codes "number") older)))
    (olders_only line change current olders)

-- ---- the status

abbrev OfStatus : ℕ → DeedPlace → Type 0
OfStatus change place = status_place change ≡ place

named_only : (change : ℕ) (name : List ℕ) → AllOnly (OfStatus change) (opening_named change name)
named_only change name =
    elim (bytes_eq name (codes "NEW")) as (λ t. AllOnly (OfStatus change) (if t then drafts (restore change) ∷ [] else [])) [
      | true ↦ (λ place speaks. speaks, tt)
      | false ↦ tt
    ]

opening_only : (change : ℕ) (name : Option (List ℕ)) → AllOnly (OfStatus change) (opening_claims change name)
opening_only change None = (λ place speaks. absurd speaks, tt)
opening_only change (Some name) = named_only change name

footers_only : (P : DeedPlace → Type 0) (are_lost : Bool) → AllOnly P (lost_footers are_lost)
footers_only P true = (λ place speaks. absurd speaks, tt)
footers_only P false = tt

lost_only : (P : DeedPlace → Type 0) (count : ℕ) (key : EventKey) → AllOnly P (replicate count (bad key))
lost_only P zero key = tt
lost_only P (suc count) key = (λ place speaks. absurd speaks, lost_only P count key)

-- ---- a row's claims

-- that the change is closed, where the row says so
abbrev Closing : Data → ℕ → List Claim
Closing line change = closing_claims change (status_part line)

row_claims : (known : List Revision) (choice : Choice) (line : Data) (change set : ℕ) → IsFedRow choice line change set
    → claims_of known choice (line_kind line) line
    ≡ Closing line change ++ (first_claims known QueryLine line ++ query_claims line change set)
row_claims known choice line change set row =
    ap (λ kind. claims_of known choice kind line) row.kind
    ∙ ap (λ fed. if fed then claims_by known QueryLine line else []) row.fed
    ∙ ap (with_change known QueryLine line) row.of_change
    ∙ ap (λ found. Closing line change ++ with_set known QueryLine line change found) row.of_set

-- what follows the marks of the current patch set
abbrev AfterMarks : Data → ℕ → ℕ → List Claim
AfterMarks line change set =
    flat_map (older_claims line change set) (listed_values (get (codes "patchSets") line))
    ++ opening_claims change (status_part line)

-- these marks, and what follows them
abbrev FromMarks : Data → ℕ → ℕ → List Mark → List Claim
FromMarks line change set marks = map (mark_claim change set) marks ++ AfterMarks line change set

-- what follows the listing of the current patch set
abbrev Rest : Data → ℕ → ℕ → List Claim
Rest line change set = FromMarks line change set (marks_in QueryLine line)

-- a score of another patch set, one of the reserved voter for these marks, or the status
abbrev Aside : ℕ → ℕ → List Mark → DeedPlace → Type 0
Aside change set marks place = Marked change set marks place ⊎ (OtherSet change set place ⊎ OfStatus change place)

aside_only : (line : Data) (change set : ℕ) (marks : List Mark)
    → AllOnly (Aside change set marks) (FromMarks line change set marks)
aside_only line change set marks =
    only_append (Aside change set marks) (map (mark_claim change set) marks) _
    (only_weaker (Marked change set marks) (Aside change set marks) (λ place is. inl is) _
    (marks_only change set marks))
    (only_append (Aside change set marks)
    (flat_map (older_claims line change set) (listed_values (get (codes "patchSets") line))) _
    (only_weaker (OtherSet change set) (Aside change set marks) (λ place is. inr (inl is)) _
    (olders_only line change set (listed_values (get (codes "patchSets") line))))
    (only_weaker (OfStatus change) (Aside change set marks) (λ place is. inr (inr is)) _
    (opening_only change (status_part line))))

-- ---- the commit

abbrev NoCommit : DeedPlace → Type 0
NoCommit place = (change set : ℕ) → place ≢ patch_place change set

score_no_commit : (place : DeedPlace) (change : ℕ) (slot : Slot) → score_place change slot ≡ place → NoCommit place
score_no_commit place change slot e other set f = cc

query_no_commit : (line : Data) (change set : ℕ) → AllOnly NoCommit (query_claims line change set)
query_no_commit line change set = (
  λ place speaks. score_no_commit place change speaks.0 speaks.2,
  only_append NoCommit (vote_claims QueryLine line change set (approvals_part QueryLine line)) (Rest line change set)
      (only_weaker (Listed change set (listed_values (approvals_part QueryLine line))) NoCommit
      (λ place is. score_no_commit place change _ is.2) _
      (votes_only line change set (listed_values (approvals_part QueryLine line))))
      (only_weaker (Aside change set (marks_in QueryLine line)) NoCommit
      (λ place is. elim is [
        | inl marked ↦ score_no_commit place change _ marked.1
        | inr aside ↦ elim aside [
          | inl other ↦ score_no_commit place change other.0 other.1
          | inr of ↦ λ other_change other_set f. let clash : status_place change ≡ patch_place other_change other_set = of ∙ f in cc
        ]
      ]) _ (aside_only line change set (marks_in QueryLine line))),
)

-- ---- numbers begin at 1, and have 32 bits

within_bounds : (b c : Bool) (m n : ℕ) → option_map unsigned_of (if b && c then Some (pos m) else None) ≡ Some n
    → (b ≡ true) × (c ≡ true) × (m ≡ n)
within_bounds true true m n e = (refl, refl, cc)
within_bounds true false m n e = cc
within_bounds false c m n e = cc

low_one : (m : ℕ) → int_le (pos 1) (pos m) ≡ true → 1 ≤ m
low_one m e = leb-true 1 m e

high_one : (m : ℕ) → int_le (pos m) (pos 4294967295) ≡ true → m < 2 ^ 32
high_one m e = let high : m ≤ 4294967295 = leb-true m 4294967295 e in omega (arith, high)

number_by : (found : Option ℤ) (n : ℕ)
    → option_map unsigned_of (option_and_then (within (pos 1) (pos 4294967295)) found) ≡ Some n → IsNumber n
number_by None n e = cc
number_by (Some (negsuc m)) n e = cc
number_by (Some (pos m)) n e =
    let parts = within_bounds (int_le (pos 1) (pos m)) (int_le (pos m) (pos 4294967295)) m n e in
    subst IsNumber parts.2 (record { from_one = low_one m parts.0; fits = high_one m parts.1 })

value_is_number : (found : Option Data) (n : ℕ) → number_value found ≡ Some n → IsNumber n
value_is_number found n e = number_by (option_and_then whole_in found) n e

value_from_one : (found : Option Data) (n : ℕ) → number_value found ≡ Some n → 1 ≤ n
value_from_one found n e = (value_is_number found n e).from_one

first_from_one : (found : Option ℕ) (rest : List ℕ) → ((n : ℕ) → found ≡ Some n → 1 ≤ n)
    → IfSome (slice_get rest 0) (λ n. 1 ≤ n) → IfSome (slice_get (cons_option found rest) 0) (λ n. 1 ≤ n)
first_from_one None rest here later = later
first_from_one (Some n) rest here later = here n refl

parents_from_one : (known : List Revision) (project : List ℕ) (parents : List Data)
    → IfSome (slice_get (filter_map (parent_in known project QueryLine) parents) 0) (λ n. 1 ≤ n)
parents_from_one known project [] = tt
parents_from_one known project (parent ∷ parents) =
    first_from_one (parent_in known project QueryLine parent) (filter_map (parent_in known project QueryLine) parents)
    (value_from_one (get (codes "number") parent)) (parents_from_one known project parents)

-- ---- what a row claims of its commit

-- the claims of a row's commit, where it has a message
abbrev commit_parent : List Revision → Data → Option ℕ
commit_parent known line = slice_get (parents_in known QueryLine line) 0

abbrev after_commit : List Revision → Data → List ℕ → List Claim
after_commit known line message =
    lost_footers (has_lost_footers message) ++ (replicate (lost_parents known QueryLine line) (bad DependsOn) ++ [])

lost_with_commit : (P : DeedPlace → Type 0) (known : List Revision) (line : Data) (message : List ℕ)
    → AllOnly P (after_commit known line message)
lost_with_commit P known line message =
    only_append P (lost_footers (has_lost_footers message)) (replicate (lost_parents known QueryLine line) (bad DependsOn) ++ [])
    (footers_only P (has_lost_footers message))
    (only_append P (replicate (lost_parents known QueryLine line) (bad DependsOn)) []
    (lost_only P (lost_parents known QueryLine line) DependsOn) tt)

faultless_commit : (known : List Revision) (choice : Choice) (line : Data) (change set : ℕ) (message : List ℕ)
    → IsFedRow choice line change set → IsFaultless (patch_set change set (kept_message message) (commit_parent known line))
faultless_commit known choice line change set message row = record {
  change = value_from_one (under (codes "number") (change_part QueryLine line)) change row.of_change;
  set = value_from_one (under (codes "number") (set_part QueryLine line)) set row.of_set;
  label = tt;
  voter = tt;
  message = kept_fits message;
  parent = parents_from_one known (project_in QueryLine line) (parents_part QueryLine line);
}

row_patch : (choice : Choice) (line : Data) (change set : ℕ) (message : List ℕ) → IsFedRow choice line change set
    → message_in QueryLine line ≡ Some message
    → patch_in QueryLine line
    ≡ Some (record { change = change; set = set; message = message; revision = revision_in QueryLine line })
row_patch choice line change set message row has =
    ap (option_and_then (λ c. option_and_then (λ s. option_map (λ m. record { change = c; set = s; message = m; revision = revision_in QueryLine line }) (message_in QueryLine line)) (set_in QueryLine line))) row.of_change
    ∙ ap (option_and_then (λ s. option_map (λ m. record { change = change; set = s; message = m; revision = revision_in QueryLine line }) (message_in QueryLine line))) row.of_set
    ∙ ap (option_map (λ m. record { change = change; set = set; message = m; revision = revision_in QueryLine line })) has

commit_claims : (known : List Revision) (choice : Choice) (line : Data) (change set : ℕ) (message : List ℕ)
    → IsFedRow choice line change set → message_in QueryLine line ≡ Some message
    → claims_of known choice (line_kind line) line
    ≡ Closing line change
    ++ drafts (patch_set change set (kept_message message) (commit_parent known line)) ∷ (after_commit known line message ++ query_claims line change set)
commit_claims known choice line change set message row has =
    row_claims known choice line change set row
    ∙ ap (λ patch. Closing line change ++ (brought_claims known QueryLine line patch ++ query_claims line change set))
    (row_patch choice line change set message row has)

commit_said : (known : List Revision) (choice : Choice) (line : Data) (change set : ℕ) (findings : List Finding)
    (new : State) → IsFedRow choice line change set → ClaimsAreSettled (claims_of known choice (line_kind line) line) findings
    → AgreesWithAll findings new → (message : List ℕ) → message_in QueryLine line ≡ Some message
    → HasPatch (change_at new change) set (record { message = kept_message message; parent = commit_parent known line })
commit_said known choice line change set findings new row settled all message has =
    let good = faultless_commit known choice line change set message row in
    let claimed = subst (λ claims. ClaimsAreSettled claims findings) (commit_claims known choice line change set message row has) settled in
    elim (draft_said (Closing line change) (patch_set change set (kept_message message) (commit_parent known line)) (after_commit known line message ++ query_claims line change set) findings new NoCommit claimed all good
    (only_append NoCommit (after_commit known line message) (query_claims line change set)
    (lost_with_commit NoCommit known line message)
    (query_no_commit line change set)) (λ none. none change set refl)) [ inl said ↦ said | inr moot ↦ absurd (moot tt) ]

-- ---- the status

-- all that a row claims before it says that the change is open
abbrev Before : List Revision → Data → ℕ → ℕ → List Claim
Before known line change set =
    (((Closing line change ++ first_claims known QueryLine line)
    ++ listed_claims change set line (approvals_part QueryLine line) (mark_ballots line))
    ++ map (mark_claim change set) (marks_in QueryLine line))
    ++ flat_map (older_claims line change set) (listed_values (get (codes "patchSets") line))

in_order : (a b c d e f : List Claim) → a ++ (b ++ (c ++ (d ++ (e ++ f)))) ≡ (((a ++ b) ++ c) ++ d) ++ e ++ f
in_order a b c d e f = sym (simp append_assoc)

-- an open status is claimed last
opening_said : (known : List Revision) (choice : Choice) (line : Data) (change set : ℕ) (findings : List Finding)
    (new : State) → IsFedRow choice line change set → ClaimsAreSettled (claims_of known choice (line_kind line) line) findings
    → AgreesWithAll findings new → (name : List ℕ) → HasStatus line name → (deed : Deed)
    → opening_named change name ≡ drafts deed ∷ [] → IsFaultless deed → IsSaidByRecord new (kept_deed deed)
opening_said known choice line change set findings new row settled all name is deed named good =
    let order : claims_of known choice (line_kind line) line ≡ Before known line change set ++ drafts deed ∷ [] =
    row_claims known choice line change set row
    ∙ in_order (Closing line change) (first_claims known QueryLine line) (listed_claims change set line (approvals_part QueryLine line) (mark_ballots line)) (map (mark_claim change set) (marks_in QueryLine line)) (flat_map (older_claims line change set) (listed_values (get (codes "patchSets") line))) (opening_claims change (status_part line))
    ∙ ap (λ status. Before known line change set ++ opening_claims change status) is
    ∙ ap (λ claims. Before known line change set ++ claims) named in
    draft_said (Before known line change set) deed [] findings new (λ place. ⊥)
    (subst (λ claims. ClaimsAreSettled claims findings) order settled) all good tt (λ none. none)

-- what follows a closed status doesn't speak of it
abbrev NoStatus : DeedPlace → Type 0
NoStatus place = (change : ℕ) → place ≢ status_place change

score_no_status : (place : DeedPlace) (change : ℕ) (slot : Slot) → score_place change slot ≡ place → NoStatus place
score_no_status place change slot e other f = cc

commit_no_status : (place : DeedPlace) (change set : ℕ) → patch_place change set ≡ place → NoStatus place
commit_no_status place change set e other f = cc

brought_no_status : (known : List Revision) (line : Data) (patch : Option ShownPatch)
    → AllOnly NoStatus (brought_claims known QueryLine line patch)
brought_no_status known line None = (λ place speaks. absurd speaks, tt)
brought_no_status known line (Some patch) = (
  λ place speaks. commit_no_status place patch.change patch.set speaks,
  lost_with_commit NoStatus known line patch.message,
)

query_no_status : (line : Data) (change set : ℕ) → opening_claims change (status_part line) ≡ []
    → AllOnly NoStatus (query_claims line change set)
query_no_status line change set silent = (
  λ place speaks. score_no_status place change speaks.0 speaks.2,
  only_append NoStatus (vote_claims QueryLine line change set (approvals_part QueryLine line)) (Rest line change set)
      (only_weaker (Listed change set (listed_values (approvals_part QueryLine line))) NoStatus
      (λ place is. score_no_status place change _ is.2) _
      (votes_only line change set (listed_values (approvals_part QueryLine line))))
      (only_append NoStatus (map (mark_claim change set) (marks_in QueryLine line)) _
      (only_weaker (Marked change set (marks_in QueryLine line)) NoStatus
      (λ place is. score_no_status place change _ is.1) _ (marks_only change set (marks_in QueryLine line)))
      (only_append NoStatus (flat_map (older_claims line change set) (listed_values (get (codes "patchSets") line))) _
      (only_weaker (OtherSet change set) NoStatus (λ place is. score_no_status place change is.0 is.1) _
      (olders_only line change set (listed_values (get (codes "patchSets") line))))
      (subst (AllOnly NoStatus) (sym silent) tt))),
)

-- a closed status is claimed first, and nothing later speaks of it
closing_said : (known : List Revision) (choice : Choice) (line : Data) (change set : ℕ) (findings : List Finding)
    (new : State) → IsFedRow choice line change set → ClaimsAreSettled (claims_of known choice (line_kind line) line) findings
    → AgreesWithAll findings new → (name : List ℕ) → HasStatus line name → (deed : Deed)
    → closing_named change name ≡ drafts deed ∷ [] → opening_named change name ≡ []
    → place_written (kept_deed deed) ≡ status_place change → IsFaultless deed → IsSaidByRecord new (kept_deed deed)
closing_said known choice line change set findings new row settled all name is deed named silent place good =
    let order : claims_of known choice (line_kind line) line
    ≡ drafts deed ∷ (first_claims known QueryLine line ++ query_claims line change set) =
    row_claims known choice line change set row
    ∙ ap (λ status. closing_claims change status ++ (first_claims known QueryLine line ++ query_claims line change set)) is
    ∙ ap (λ claims. claims ++ (first_claims known QueryLine line ++ query_claims line change set)) named in
    draft_said [] deed (first_claims known QueryLine line ++ query_claims line change set) findings new NoStatus
    (subst (λ claims. ClaimsAreSettled claims findings) order settled) all good
    (only_append NoStatus (first_claims known QueryLine line) (query_claims line change set)
    (brought_no_status known line (brought_by known QueryLine line))
    (query_no_status line change set (ap (opening_claims change) is ∙ silent)))
    (λ none. none change place)

merged_or : (status : Status) → ¬ (status ≢ Merged) → status ≡ Merged
merged_or New moot = absurd (moot (λ e. cc))
merged_or Abandoned moot = absurd (moot (λ e. cc))
merged_or Merged moot = refl

-- ---- who isn't listed

is_either : (a b : List Ballot) (label voter : List ℕ) → is_listed_vote (a ++ b) label voter ≡ false
    → (is_listed_vote a label voter ≡ false) × (is_listed_vote b label voter ≡ false)
is_either a b label voter e =
    neither (is_listed_vote a label voter) (is_listed_vote b label voter) (sym (list_any-append (is_ballot_of label voter) a b) ∙ e) where
      neither : (x y : Bool) → (x || y) ≡ false → (x ≡ false) × (y ≡ false)
      neither true y e = absurd (false≢true (sym e))
      neither false y e = (refl, e)

-- what follows the approvals doesn't speak of a score for which there is no mark
unspoken_aside : (change set : ℕ) (marks : List Mark) (label voter : List ℕ)
    → (voter ≡ reserved_voter → is_listed_vote (map mark_ballot marks) label voter ≡ false)
    → ¬ Aside change set marks (score_place change (record { set = set; label = label; voter = voter }))
unspoken_aside change set marks label voter unmarked aside = elim aside [
  | inl marked ↦
      let same_label : marked.0 ≡ label = ap (λ slot. slot.label) (one_slot marked.1) in
      let same_voter : reserved_voter ≡ voter = ap (λ slot. slot.voter) (one_slot marked.1) in
      false≢true (sym (unmarked (sym same_voter)) ∙ ap (λ l. is_listed_vote (map mark_ballot marks) l voter) (sym same_label) ∙ ap (is_listed_vote (map mark_ballot marks) marked.0) (sym same_voter) ∙ marked.2)
  | inr more ↦ elim more [
    | inl other ↦ other.2 (let e = other.1 in ap (λ s. s.set) (one_slot e))
    | inr of ↦ let clash : status_place change ≡ score_place change (record { set = set; label = label; voter = voter }) = of in cc
  ]
]

-- what follows doesn't speak of a score that isn't listed
abbrev Spoken : ℕ → ℕ → List Mark → List Data → DeedPlace → Type 0
Spoken change set marks approvals place = Listed change set approvals place ⊎ Aside change set marks place

unspoken_score : (change set : ℕ) (marks : List Mark) (approvals : List Data) (label voter : List ℕ)
    → is_listed_vote (filter_map ballot_of approvals) label voter ≡ false
    → (voter ≡ reserved_voter → is_listed_vote (map mark_ballot marks) label voter ≡ false)
    → ¬ Spoken change set marks approvals (score_place change (record { set = set; label = label; voter = voter }))
unspoken_score change set marks approvals label voter unlisted unmarked spoken = elim spoken [
  | inl is ↦
      let same_label : is.0 ≡ label = ap (λ slot. slot.label) (one_slot is.2) in
      let same_voter : is.1 ≡ voter = ap (λ slot. slot.voter) (one_slot is.2) in
      false≢true (sym unlisted ∙ ap (λ l. is_listed_vote (filter_map ballot_of approvals) l voter) (sym same_label) ∙ ap (is_listed_vote (filter_map ballot_of approvals) is.0) (sym same_voter) ∙ is.3)
  | inr aside ↦ unspoken_aside change set marks label voter unmarked aside
]

after_listing : (line : Data) (change set : ℕ) (approvals : List Data)
    → AllOnly (Spoken change set (marks_in QueryLine line) approvals) (map (vote_claim QueryLine line change set) approvals ++ Rest line change set)
after_listing line change set approvals =
    let marks = marks_in QueryLine line in
    only_append (Spoken change set marks approvals) (map (vote_claim QueryLine line change set) approvals) (Rest line change set)
    (only_weaker (Listed change set approvals) (Spoken change set marks approvals) (λ place is. inl is) _ (votes_only line change set approvals))
    (only_weaker (Aside change set marks) (Spoken change set marks approvals) (λ place is. inr is) _ (aside_only line change set marks))

others_said : (known : List Revision) (choice : Choice) (line : Data) (change set : ℕ) (findings : List Finding)
    (new : State) → IsFedRow choice line change set → ClaimsAreSettled (claims_of known choice (line_kind line) line) findings
    → AgreesWithAll findings new → (label voter : List ℕ) → IsGood (withdraw change set label voter)
    → is_listed_vote (ballots_in (approvals_part QueryLine line) ++ mark_ballots line) label voter ≡ false
    → IsRecorded new (withdraw change set label voter)
others_said known choice line change set findings new row settled all label voter good unlisted =
    let parts = is_either (ballots_in (approvals_part QueryLine line)) (mark_ballots line) label voter unlisted in
    unlisted_said (Closing line change ++ first_claims known QueryLine line)
    (record { change = change; set = set; ballots = ballots_in (approvals_part QueryLine line) ++ mark_ballots line })
    (vote_claims QueryLine line change set (approvals_part QueryLine line) ++ Rest line change set) findings new
    (Spoken change set (marks_in QueryLine line) (listed_values (approvals_part QueryLine line)))
    (subst (λ claims. ClaimsAreSettled claims findings)
    (row_claims known choice line change set row
    ∙ sym (append_assoc (Closing line change) (first_claims known QueryLine line) (query_claims line change set)))
    settled) all label voter good
    unlisted (after_listing line change set (listed_values (approvals_part QueryLine line)))
    (unspoken_score change set (marks_in QueryLine line) (listed_values (approvals_part QueryLine line)) label voter parts.0 (λ same. parts.1))

-- ---- each approval

-- the deed of a vote with this value
abbrev ballot_deed : ℕ → ℕ → List ℕ → List ℕ → ℤ → Deed
ballot_deed change set label voter value =
    if is_zero value then withdraw change set label voter else vote change set label voter value

vote_claimed : (line : Data) (change set : ℕ) (approval : Data) (label voter : List ℕ) (value : ℤ)
    → IsApproval approval label voter value
    → vote_claim QueryLine line change set approval ≡ drafts (ballot_deed change set label voter value)
vote_claimed line change set approval label voter value is =
    ap (λ found. voted change set By found (user_in (get (codes "by") approval)) true (value_under (get (codes "value") approval))) is.on_label
    ∙ ap (λ user. voted change set By (Some label) user true (value_under (get (codes "value") approval))) is.by_voter
    ∙ ap (λ t. if t then bad Username else vote_of change set label voter true (value_under (get (codes "value") approval))) is.real
    ∙ by_value (get (codes "value") approval) is.with_value where
      by_zero : (b : Bool) → (if b then drafts (withdraw change set label voter) else drafts (vote change set label voter value)) ≡ drafts (if b then withdraw change set label voter else vote change set label voter value)
      by_zero true = refl
      by_zero false = refl

      by_value : (found : Option Data) → vote_value found ≡ Some value → vote_of change set label voter true (value_under found) ≡ drafts (ballot_deed change set label voter value)
      by_value None e = cc
      by_value (Some d) e = ap (λ v. vote_of change set label voter true (Some v)) e ∙ by_zero (is_zero value)

zero_is : (value : ℤ) → is_zero value ≡ true → value ≡ pos 0
zero_is (pos n) e = ap pos (eqb-true n 0 e)
zero_is (negsuc n) e = absurd (false≢true e)

ballot_place : (change set : ℕ) (label voter : List ℕ) (value : ℤ) (b : Bool)
    → place_written (kept_deed (if b then withdraw change set label voter else vote change set label voter value))
    ≡ score_place change (record { set = set; label = map to_ascii_lowercase label; voter = voter })
ballot_place change set label voter value true = refl
ballot_place change set label voter value false = refl

ballot_faultless : (change set : ℕ) (label voter : List ℕ) (value : ℤ) (b : Bool)
    → IsFaultless (vote change set label voter value)
    → IsFaultless (if b then withdraw change set label voter else vote change set label voter value)
ballot_faultless change set label voter value true good = record {
  change = good.change;
  set = good.set;
  label = good.label;
  voter = good.voter;
  message = tt;
  parent = tt;
}
ballot_faultless change set label voter value false good = good

ballot_scored : (state : State) (change set : ℕ) (label voter : List ℕ) (value : ℤ)
    → IsSaidByRecord state (kept_deed (ballot_deed change set label voter value))
    → score_at (change_at state change) (record { set = set; label = map to_ascii_lowercase label; voter = voter }) ≡ value
ballot_scored state change set label voter value =
    elim (is_zero value) as (λ b. is_zero value ≡ b → IsSaidByRecord state (kept_deed (if b then withdraw change set label voter else vote change set label voter value)) → score_at (change_at state change) (record { set = set; label = map to_ascii_lowercase label; voter = voter }) ≡ value) [
      | true ↦ λ e settled. elim settled [ inl said ↦ said ∙ sym (zero_is value e) | inr moot ↦ absurd (moot tt) ]
      | false ↦ λ e settled. elim settled [ inl said ↦ said | inr moot ↦ absurd (moot tt) ]
    ] refl

approval_in_order : (first before after rest : List Claim) (head claim : Claim)
    → first ++ ((head ∷ (before ++ claim ∷ after)) ++ rest) ≡ (first ++ head ∷ before) ++ claim ∷ (after ++ rest)
approval_in_order first before after rest head claim =
    ap (λ claims. first ++ claims) (append_assoc (head ∷ before) (claim ∷ after) rest)
    ∙ sym (append_assoc first (head ∷ before) (claim ∷ (after ++ rest)))

approval_said : (known : List Revision) (choice : Choice) (line : Data) (change set : ℕ) (findings : List Finding)
    (new : State) → IsFedRow choice line change set → ClaimsAreSettled (claims_of known choice (line_kind line) line) findings
    → AgreesWithAll findings new → (before after : List Data) (approval : Data) (label voter : List ℕ) (value : ℤ)
    → listed_values (approvals_part QueryLine line) ≡ before ++ approval ∷ after → IsApproval approval label voter value
    → IsFaultless (vote change set label voter value)
    → is_listed_vote (filter_map ballot_of after) (map to_ascii_lowercase label) voter ≡ false
    → score_at (change_at new change) (record { set = set; label = map to_ascii_lowercase label; voter = voter }) ≡ value
approval_said known choice line change set findings new row settled all before after approval label voter value order is good last =
    let vc = vote_claim QueryLine line change set in
    let head : Claim = lists (record { change = change; set = set; ballots = ballots_in (approvals_part QueryLine line) ++ mark_ballots line }) in
    let first = Closing line change ++ first_claims known QueryLine line in
    let ordered : claims_of known choice (line_kind line) line ≡ (first ++ head ∷ map vc before) ++ drafts (ballot_deed change set label voter value) ∷ (map vc after ++ Rest line change set) =
    row_claims known choice line change set row
    ∙ sym (append_assoc (Closing line change) (first_claims known QueryLine line) (query_claims line change set))
    ∙ ap (λ approvals. first ++ ((head ∷ map vc approvals) ++ Rest line change set)) order
    ∙ ap (λ votes. first ++ ((head ∷ votes) ++ Rest line change set)) (map-append vc before (approval ∷ after))
    ∙ ap (λ claim. first ++ ((head ∷ (map vc before ++ claim ∷ map vc after)) ++ Rest line change set)) (vote_claimed line change set approval label voter value is)
    ∙ approval_in_order first (map vc before) (map vc after) (Rest line change set) head (drafts (ballot_deed change set label voter value)) in
    ballot_scored new change set label voter value
    (draft_said (first ++ head ∷ map vc before) (ballot_deed change set label voter value) (map vc after ++ Rest line change set) findings new (Spoken change set (marks_in QueryLine line) after)
    (subst (λ claims. ClaimsAreSettled claims findings) ordered settled) all
    (ballot_faultless change set label voter value (is_zero value) good) (after_listing line change set after)
    (subst (λ place. ¬ Spoken change set (marks_in QueryLine line) after place) (sym (ballot_place change set label voter value (is_zero value)))
    (unspoken_score change set (marks_in QueryLine line) after (map to_ascii_lowercase label) voter last
    (λ reserved. absurd (false≢true (sym is.real ∙ ap (λ v. bytes_eq v reserved_voter) reserved ∙ same_text reserved_voter))))))

-- ---- each mark

-- the vote for a mark
abbrev mark_deed : ℕ → ℕ → List ℕ → Deed
mark_deed change set label = vote change set label reserved_voter (negsuc 0)

mark_in_order : (first list before after rest : List Claim) (claim : Claim)
    → first ++ (list ++ ((before ++ claim ∷ after) ++ rest)) ≡ ((first ++ list) ++ before) ++ claim ∷ (after ++ rest)
mark_in_order first list before after rest claim =
    ap (λ claims. first ++ (list ++ claims)) (append_assoc before (claim ∷ after) rest)
    ∙ sym (append_assoc first list (before ++ claim ∷ (after ++ rest)))
    ∙ sym (append_assoc (first ++ list) before (claim ∷ (after ++ rest)))

marked_said : (known : List Revision) (choice : Choice) (line : Data) (change set : ℕ) (findings : List Finding)
    (new : State) → IsFedRow choice line change set → ClaimsAreSettled (claims_of known choice (line_kind line) line) findings
    → AgreesWithAll findings new → IsNumber change → IsNumber set → (mark : Mark) → SaysMark line mark
    → mark_score new change set mark ≡ negsuc 0
marked_said known choice line change set findings new row settled all of_change of_set mark is =
    let at = last_mark (marks_in QueryLine line) (mark_label mark) (said_listed line mark is) in
    let mc = mark_claim change set in
    let list = listed_claims change set line (approvals_part QueryLine line) (mark_ballots line) in
    let first = Closing line change ++ first_claims known QueryLine line in
    let label = map to_ascii_lowercase (mark_label mark) in
    let ordered : claims_of known choice (line_kind line) line ≡ ((first ++ list) ++ map mc at.before) ++ drafts (mark_deed change set (mark_label mark)) ∷ FromMarks line change set at.after =
    row_claims known choice line change set row
    ∙ sym (append_assoc (Closing line change) (first_claims known QueryLine line) (query_claims line change set))
    ∙ ap (λ marks. first ++ (list ++ FromMarks line change set marks)) at.order
    ∙ ap (λ claims. first ++ (list ++ (claims ++ AfterMarks line change set))) (map-append mc at.before (at.mark ∷ at.after))
    ∙ ap (λ name. first ++ (list ++ ((map mc at.before ++ drafts (mark_deed change set name) ∷ map mc at.after) ++ AfterMarks line change set))) at.here
    ∙ mark_in_order first list (map mc at.before) (map mc at.after) (AfterMarks line change set) (drafts (mark_deed change set (mark_label mark))) in
    let unmarked : is_listed_vote (map mark_ballot at.after) label reserved_voter ≡ false =
    subst (λ name. is_listed_vote (map mark_ballot at.after) name reserved_voter ≡ false) (sym (lower_mark mark)) at.last in
    elim (draft_said ((first ++ list) ++ map mc at.before) (mark_deed change set (mark_label mark)) (FromMarks line change set at.after) findings new (Aside change set at.after)
    (subst (λ claims. ClaimsAreSettled claims findings) ordered settled) all
    (mark_faultless change set mark of_change of_set) (aside_only line change set at.after)
    (unspoken_aside change set at.after label reserved_voter (λ same. unmarked))) [
      | inl said ↦
          ap (λ name. score_at (change_at new change) (record { set = set; label = name; voter = reserved_voter })) (sym (lower_mark mark)) ∙ said
      | inr moot ↦ absurd (moot tt)
    ]

unmarked_said : (known : List Revision) (choice : Choice) (line : Data) (change set : ℕ) (findings : List Finding)
    (new : State) → IsFedRow choice line change set → ClaimsAreSettled (claims_of known choice (line_kind line) line) findings
    → AgreesWithAll findings new → IsNumber change → IsNumber set → (mark : Mark) → ¬ SaysMark line mark
    → mark_score new change set mark ≡ pos 0
unmarked_said known choice line change set findings new row settled all of_change of_set mark silent =
    others_said known choice line change set findings new row settled all (mark_label mark) reserved_voter
    (mark_good change set mark of_change of_set) (silent_unlisted line mark silent)

pub says : (known : List Revision) (choice : Choice) (line : Data) (change set : ℕ) (findings : List Finding)
    (new : State) → IsFedRow choice line change set → ClaimsAreSettled (claims_of known choice (line_kind line) line) findings
    → AgreesWithAll findings new → SaysRow known line change set new
says known choice line change set findings new row settled all =
    let of_change = value_is_number (under (codes "number") (change_part QueryLine line)) change row.of_change in
    let of_set = value_is_number (under (codes "number") (set_part QueryLine line)) set row.of_set in
    let one : 1 ≤ change = of_change.from_one in
    record {
      commit = commit_said known choice line change set findings new row settled all;
      merged = λ is. elim (closing_said known choice line change set findings new row settled all (codes "MERGED") is (merged change) refl refl refl (record { change = one; set = tt; label = tt; voter = tt; message = tt; parent = tt })) [
        | inl said ↦ said
        | inr moot ↦ absurd (moot tt)
      ];
      new = λ is. elim (opening_said known choice line change set findings new row settled all (codes "NEW") is (restore change) refl (record { change = one; set = tt; label = tt; voter = tt; message = tt; parent = tt })) [
        | inl said ↦ inl said
        | inr moot ↦ inr (merged_or (status_of (change_at new change)) moot)
      ];
      abandoned = λ is. elim (closing_said known choice line change set findings new row settled all (codes "ABANDONED") is (abandon change) refl refl refl (record { change = one; set = tt; label = tt; voter = tt; message = tt; parent = tt })) [
        | inl said ↦ inl said
        | inr moot ↦ inr (merged_or (status_of (change_at new change)) moot)
      ];
      approvals = approval_said known choice line change set findings new row settled all;
      others = others_said known choice line change set findings new row settled all;
      marked = marked_said known choice line change set findings new row settled all of_change of_set;
      unmarked = unmarked_said known choice line change set findings new row settled all of_change of_set;
    }
