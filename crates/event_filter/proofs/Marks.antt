-- The marks of a row: whether it says each, that a vote for it has no fault, and where it claims it.
use Rattle.std.specs.Prelude.{◌≡◌, ◌||◌, ◌&&◌, nat_le, ℕ, negsuc, Bool, true, false, List, [], ◌∷◌, ◌++◌, length, map}
use Rattle.std.specs.Prelude.{filter_map, if◌then◌else◌, option_and_then, Option, Some, None, codes}
use Rattle.std.specs.Char.{is_ascii_graphic, to_ascii_lowercase}
use Rattle.std.specs.List.{cons_option, list_all}
use Rattle.std.specs.Str.{bytes_eq}
use Rattle.std.proofs.Common.{refl, sym, ap, ◌∙◌}
use Rattle.std.proofs.lemmas.Bool.{and_parts, false≢true, leb-true}
use Rattle.std.proofs.lemmas.List.Folds.{Any-from_list_any, list_any-append, list_any-from_Any}
use Rattle.std.proofs.lemmas.List.Sums.{AllPass-from_list_all}
use Rattle.std.proofs.lemmas.Slice.Eq.{bytes_eq-Decides}
use Rattle.serde_json.specs.Data.{Data}
use Rattle.serde_json.specs.Find.{as_bool, get}
use Rattle.review_ops.specs.Deed.{vote, withdraw}
use Rattle.review_ops.specs.Good.{IsFaultless, IsGood, IsLabel, IsNumber, IsVoter, is_label_byte}
use Rattle.gerrit_events.specs.declared.kind.Kind.TheVariants.{QueryLine}
use Rattle.gerrit_events.specs.declared.mark.Mark.{Mark}
use Rattle.gerrit_events.specs.declared.mark.Mark.TheVariants.{WorkInProgress, Private, OutdatedParent}
use Rattle.gerrit_events.specs.Kinds.{approvals_part}
use Rattle.gerrit_events.specs.Listings.{Ballot, ballot_by, ballot_of, ballots_in, mark_ballot, mark_ballots}
use Rattle.gerrit_events.specs.Marks.{if_so, is_bool, is_outdated, is_outdated_on, is_private, is_wip, mark_label}
use Rattle.gerrit_events.specs.Marks.{reserved_voter}
use Rattle.gerrit_events.specs.Values.{listed_values, text_in, user_in}
use Rattle.event_filter.specs.Bringing.{is_ballot_of, is_listed_vote}
use Rattle.event_filter.specs.Rows.{SaysMark}

-- ---- a vote for a mark has no fault

pub lower_mark : (mark : Mark) → map to_ascii_lowercase (mark_label mark) ≡ mark_label mark
lower_mark WorkInProgress = refl
lower_mark Private = refl
lower_mark OutdatedParent = refl

label_by : (text : List ℕ) → nat_le 1 (length text) ≡ true → nat_le (length text) 64 ≡ true
    → list_all is_label_byte text ≡ true → IsLabel text
label_by text some short letters = record {
  some = leb-true 1 (length text) some;
  short = leb-true (length text) 64 short;
  letters = AllPass-from_list_all is_label_byte text letters;
}

is_mark_label : (mark : Mark) → IsLabel (mark_label mark)
is_mark_label WorkInProgress = label_by (mark_label WorkInProgress) refl refl refl
is_mark_label Private = label_by (mark_label Private) refl refl refl
is_mark_label OutdatedParent = label_by (mark_label OutdatedParent) refl refl refl

is_reserved_voter : IsVoter reserved_voter
is_reserved_voter = record {
  some = leb-true 1 (length reserved_voter) refl;
  short = leb-true (length reserved_voter) 64 refl;
  visible = AllPass-from_list_all is_ascii_graphic reserved_voter refl;
}

pub mark_faultless : (change set : ℕ) (mark : Mark) → IsNumber change → IsNumber set
    → IsFaultless (vote change set (mark_label mark) reserved_voter (negsuc 0))
mark_faultless change set mark of_change of_set = record {
  change = of_change.from_one;
  set = of_set.from_one;
  label = is_mark_label mark;
  voter = is_reserved_voter;
  message = tt;
  parent = tt;
}

pub mark_good : (change set : ℕ) (mark : Mark) → IsNumber change → IsNumber set
    → IsGood (withdraw change set (mark_label mark) reserved_voter)
mark_good change set mark of_change of_set = record {
  change = of_change;
  set = of_set;
  message = tt;
  parent = tt;
  label = record { label = is_mark_label mark; lower = lower_mark mark };
  voter = is_reserved_voter;
  value = tt;
}

-- ---- what a row says

abbrev one_of : (wip private outdated : Bool) → Mark → Bool
one_of wip private outdated WorkInProgress = wip
one_of wip private outdated Private = private
one_of wip private outdated OutdatedParent = outdated

-- whether the row says the mark
abbrev is_so : Data → Mark → Bool
is_so line mark = one_of (is_wip QueryLine line) (is_private QueryLine line) (is_outdated QueryLine line) mark

bool_is : (wanted : Bool) (found : Option Bool) → is_bool wanted found ≡ true → found ≡ Some wanted
bool_is true (Some true) e = refl
bool_is true (Some false) e = absurd (false≢true e)
bool_is true None e = absurd (false≢true e)
bool_is false (Some true) e = absurd (false≢true e)
bool_is false (Some false) e = refl
bool_is false None e = absurd (false≢true e)

so : (line : Data) (mark : Mark) → SaysMark line mark → is_so line mark ≡ true
so line WorkInProgress is = ap (is_bool true) is
so line Private is = ap (is_bool true) is
so line OutdatedParent is =
    list_any-from_Any is_outdated_on (listed_values (get (codes "dependsOn") line))
    (is.0, is.1, is.2, is.3, ap (is_bool false) is.4)

says_so : (line : Data) (mark : Mark) → is_so line mark ≡ true → SaysMark line mark
says_so line WorkInProgress e = bool_is true (option_and_then as_bool (get (codes "wip") line)) e
says_so line Private e = bool_is true (option_and_then as_bool (get (codes "private") line)) e
says_so line OutdatedParent e =
    let on = Any-from_list_any is_outdated_on (listed_values (get (codes "dependsOn") line)) e in
    (on.0, on.1, on.2, on.3, bool_is false (option_and_then as_bool (get (codes "isCurrentPatchSet") on.1)) on.4)

not_so : (line : Data) (mark : Mark) → ¬ SaysMark line mark → is_so line mark ≡ false
not_so line mark silent = untrue (is_so line mark) (λ e. silent (says_so line mark e)) where
  untrue : (b : Bool) → ¬ (b ≡ true) → b ≡ false
  untrue true never = absurd (never refl)
  untrue false never = refl

-- ---- which ballots the reserved voter has

-- the marks that are so have a ballot, and no others
one_listed : (wip private outdated : Bool) (mark : Mark)
    → is_listed_vote (map mark_ballot ((if_so wip WorkInProgress ++ if_so private Private) ++ if_so outdated OutdatedParent)) (mark_label mark) reserved_voter
    ≡ one_of wip private outdated mark
one_listed true private outdated WorkInProgress = refl
one_listed false true true WorkInProgress = refl
one_listed false true false WorkInProgress = refl
one_listed false false true WorkInProgress = refl
one_listed false false false WorkInProgress = refl
one_listed true true outdated Private = refl
one_listed false true outdated Private = refl
one_listed true false true Private = refl
one_listed true false false Private = refl
one_listed false false true Private = refl
one_listed false false false Private = refl
one_listed true true true OutdatedParent = refl
one_listed true true false OutdatedParent = refl
one_listed true false true OutdatedParent = refl
one_listed true false false OutdatedParent = refl
one_listed false true true OutdatedParent = refl
one_listed false true false OutdatedParent = refl
one_listed false false true OutdatedParent = refl
one_listed false false false OutdatedParent = refl

listed_if_so : (line : Data) (mark : Mark)
    → is_listed_vote (mark_ballots line) (mark_label mark) reserved_voter ≡ is_so line mark
listed_if_so line mark = one_listed (is_wip QueryLine line) (is_private QueryLine line) (is_outdated QueryLine line) mark

pub said_listed : (line : Data) (mark : Mark) → SaysMark line mark
    → is_listed_vote (mark_ballots line) (mark_label mark) reserved_voter ≡ true
said_listed line mark is = listed_if_so line mark ∙ so line mark is

-- an approval of the reserved voter is no ballot
not_reserved : (label user : Option (List ℕ)) (ballots : List Ballot) (name : List ℕ)
    → is_listed_vote ballots name reserved_voter ≡ false
    → is_listed_vote (cons_option (ballot_by label user) ballots) name reserved_voter ≡ false
not_reserved None user ballots name e = e
not_reserved (Some label) None ballots name e = e
not_reserved (Some label) (Some voter) ballots name e =
    elim (bytes_eq voter reserved_voter) as (λ t. bytes_eq voter reserved_voter ≡ t → is_listed_vote (cons_option (if t then None else Some (record { label = map to_ascii_lowercase label; voter = voter })) ballots) name reserved_voter ≡ false) [
      | true ↦ λ reserved. e
      | false ↦ λ other.
          let same = bytes_eq (map to_ascii_lowercase label) name in
          ap (λ t. (same && t) || is_listed_vote ballots name reserved_voter) other ∙ ap (λ t. t || is_listed_vote ballots name reserved_voter) (and_false same) ∙ e
    ] refl where
      and_false : (b : Bool) → (b && false) ≡ false
      and_false true = refl
      and_false false = refl

none_reserved : (approvals : List Data) (name : List ℕ)
    → is_listed_vote (filter_map ballot_of approvals) name reserved_voter ≡ false
none_reserved [] name = refl
none_reserved (approval ∷ approvals) name =
    not_reserved (text_in (get (codes "type") approval)) (user_in (get (codes "by") approval))
    (filter_map ballot_of approvals) name (none_reserved approvals name)

pub silent_unlisted : (line : Data) (mark : Mark) → ¬ SaysMark line mark
    → is_listed_vote (ballots_in (approvals_part QueryLine line) ++ mark_ballots line) (mark_label mark) reserved_voter ≡ false
silent_unlisted line mark silent =
    list_any-append (is_ballot_of (mark_label mark) reserved_voter) (ballots_in (approvals_part QueryLine line)) (mark_ballots line)
    ∙ ap (λ t. t || is_listed_vote (mark_ballots line) (mark_label mark) reserved_voter) (none_reserved (listed_values (approvals_part QueryLine line)) (mark_label mark))
    ∙ listed_if_so line mark ∙ not_so line mark silent

-- ---- where a mark is claimed

-- the last of some marks with this label
pub record LastMark (marks : List Mark) (label : List ℕ) : Type 0 where
  pub before : List Mark
  pub mark : Mark
  pub after : List Mark
  pub order : marks ≡ before ++ mark ∷ after
  pub here : mark_label mark ≡ label
  pub last : is_listed_vote (map mark_ballot after) label reserved_voter ≡ false

first_label : (mark : Mark) (label : List ℕ) (later : Bool)
    → (is_ballot_of label reserved_voter (mark_ballot mark) || later) ≡ true → later ≡ false → mark_label mark ≡ label
first_label mark label true e none = absurd (false≢true (sym none))
first_label mark label false e none =
    (bytes_eq-Decides (mark_label mark) label).0
    (and_parts (bytes_eq (mark_label mark) label) (bytes_eq reserved_voter reserved_voter)
    (or_false (is_ballot_of label reserved_voter (mark_ballot mark)) e)).0 where
      or_false : (b : Bool) → (b || false) ≡ true → b ≡ true
      or_false true e = refl
      or_false false e = e

pub last_mark : (marks : List Mark) (label : List ℕ)
    → is_listed_vote (map mark_ballot marks) label reserved_voter ≡ true → LastMark marks label
last_mark [] label listed = absurd (false≢true listed)
last_mark (mark ∷ marks) label listed =
    elim (is_listed_vote (map mark_ballot marks) label reserved_voter) as (λ t. is_listed_vote (map mark_ballot marks) label reserved_voter ≡ t → LastMark (mark ∷ marks) label) [
      | true ↦ λ later.
          let found = last_mark marks label later in
          record {
            before = mark ∷ found.before;
            mark = found.mark;
            after = found.after;
            order = ap (λ rest. mark ∷ rest) found.order;
            here = found.here;
            last = found.last;
          }
      | false ↦ λ none. record {
        before = [];
        mark = mark;
        after = marks;
        order = refl;
        here = first_label mark label (is_listed_vote (map mark_ballot marks) label reserved_voter) listed none;
        last = none;
      }
    ] refl
