-- A gate with a condition that is never met lets nothing in.
use Rattle.std.proofs.Common.{◌≡◌, ◌⊎◌, inl, inr, ℕ, ℤ, zero, suc, List, [], ◌∷◌, Bool, true, false, not, ◌&&◌, ◌||◌}
use Rattle.std.proofs.Common.{Option, None, Some, is_some, option_map, ap, refl, ◌∙◌, sym, subst}
use Rattle.std.specs.Prelude.{filter, if◌then◌else◌, map, slice_get, unwrap_or}
use Rattle.std.specs.Ordering.{int_eq}
use Rattle.std.specs.Str.{bytes_eq}
use Rattle.std.proofs.lemmas.Bool.Decides.{Decides-int_eq}
use Rattle.std.proofs.lemmas.Slice.Eq.{bytes_eq-Decides}
use Rattle.change_core.specs.Change.{Change}
use Rattle.change_core.specs.Views.{status_of}
use Rattle.change_core.specs.Votes.{GivenApproval, GivenVote, approval_of, approvals_among, approvals_of, votes_of}
use Rattle.change_core.specs.declared.life.Status.{Status}
use Rattle.change_core.specs.declared.life.Status.TheVariants.{New, Abandoned, Merged}
use Rattle.gate_rules.specs.Own.{IsBroken, compared, labels_take, matches, names, same_flag, some, standing_of}
use Rattle.gate_rules.specs.Reading.{each}
use Rattle.gate_rules.specs.Rules.{GateRules, LabelRule, PatternRule}
use Rattle.gate_rules.specs.declared.condition.Clause.TheVariants.{Approval, CurrentSet, OpenState, StatusIn}
use Rattle.gate_rules.specs.declared.condition.Condition.{Condition}
use Rattle.gate_rules.specs.declared.condition.Side.{Side}
use Rattle.gate_rules.specs.declared.condition.Side.TheVariants.{Reject, Require}
use Rattle.gate_check.specs.Meeting.{IsRejectedPattern, LetsNothingIn, asks_status, comes_out, has_none, is_as_wide}
use Rattle.gate_check.specs.Meeting.{lets_in}
use Rattle.gate_check.specs.Meeting.{is_current_never_met, is_no_vote, lets_none_in, rejects_each, rejects_votes}
use Rattle.gate_check.specs.Meeting.{same_answer, shuts_out, standing_with, wanted_vote}

-- ---- tests

pub both : (a b : Bool) → (a && b) ≡ true → (a ≡ true) × (b ≡ true)
both true b e = (refl, e)
both false b e = cc

one_fails : (a b : Bool) → (a && b) ≡ false → (a ≡ false) ⊎ (b ≡ false)
one_fails true b e = inr e
one_fails false b e = inl refl

three_fail : (a b c : Bool) → not (a || b || c) ≡ true → (a ≡ false) × (b ≡ false) × (c ≡ false)
three_fail true b c e = cc
three_fail false true c e = cc
three_fail false false true e = cc
three_fail false false false e = (refl, refl, refl)

module _ {X : Type 0} (test : X → Bool) where
  pub some_in : (xs : List X) → some test xs ≡ true → (x : X) × (k : ℕ) × (slice_get xs k ≡ Some x) × (test x ≡ true)
  some_in [] e = cc
  some_in (x ∷ xs) e =
      elim (test x) as (λ b. test x ≡ b → (if b then true else some test xs) ≡ true → (y : X) × (k : ℕ) × (slice_get (x ∷ xs) k ≡ Some y) × (test y ≡ true)) [
        | true ↦ λ is found. (x, 0, refl, is)
        | false ↦ λ is found. let later = some_in xs found in (later.0, suc later.1, later.2, later.3)
      ] refl e

  pub some_at : (xs : List X) (k : ℕ) (x : X) → slice_get xs k ≡ Some x → test x ≡ true → some test xs ≡ true
  some_at [] k x at is = cc
  some_at (y ∷ xs) zero x at is =
      let same : y ≡ x = cc in ap (λ b. if b then true else some test xs) (ap test same ∙ is)
  some_at (y ∷ xs) (suc k) x at is =
      elim (test y) as (λ b. (if b then true else some test xs) ≡ true) [ true ↦ refl | false ↦ some_at xs k x at is ]

  pub each_at : (xs : List X) (k : ℕ) (x : X) → each test xs ≡ true → slice_get xs k ≡ Some x → test x ≡ true
  each_at [] k x all at = cc
  each_at (y ∷ xs) zero x all at =
      elim (test y) as (λ b. test y ≡ b → (if b then each test xs else false) ≡ true → test x ≡ true) [
        | true ↦ λ is later. let same : y ≡ x = cc in ap test (sym same) ∙ is
        | false ↦ λ is later. cc
      ] refl all
  each_at (y ∷ xs) (suc k) x all at =
      elim (test y) as (λ b. (if b then each test xs else false) ≡ true → test x ≡ true) [
        | true ↦ λ later. each_at xs k x later at
        | false ↦ λ later. cc
      ] all

-- ---- the status

out_required : (o : Option Bool) → comes_out true o ≡ false → o ≡ Some false
out_required None e = cc
out_required (Some true) e = cc
out_required (Some false) e = refl

out_rejected : (o : Option Bool) → comes_out false o ≡ false → o ≡ Some true
out_rejected None e = cc
out_rejected (Some true) e = refl
out_rejected (Some false) e = cc

pub none_let_in : (gate : GateRules) (status : Status) → lets_none_in gate ≡ true → lets_in gate status ≡ false
none_let_in gate New none = (three_fail (lets_in gate New) (lets_in gate Abandoned) (lets_in gate Merged) none).0
none_let_in gate Abandoned none = (three_fail (lets_in gate New) (lets_in gate Abandoned) (lets_in gate Merged) none).1
none_let_in gate Merged none = (three_fail (lets_in gate New) (lets_in gate Abandoned) (lets_in gate Merged) none).2

pub status_shut : (gate : GateRules) → lets_none_in gate ≡ true → LetsNothingIn gate
status_shut gate none =
    λ change current set. by_last change current set (one_fails _ _ (none_let_in gate (status_of change) none)) where
      Broken : Change → ℕ → ℕ → Type 0
      Broken change current set = (condition : Condition) × IsBroken gate (standing_of change current set) condition

      by_first : (change : Change) (current set : ℕ)
          → (comes_out true (compared gate.require (standing_with (status_of change)) OpenState) ≡ false)
          ⊎ (comes_out true (compared gate.require (standing_with (status_of change)) StatusIn) ≡ false)
          → Broken change current set
      by_first change current set (inl out) =
          (record { side = Require; clause = OpenState }, out_required (compared gate.require (standing_of change current set) OpenState) out)
      by_first change current set (inr out) =
          (record { side = Require; clause = StatusIn }, out_required (compared gate.require (standing_of change current set) StatusIn) out)

      by_next : (change : Change) (current set : ℕ)
          → ((comes_out true (compared gate.require (standing_with (status_of change)) OpenState)
          && comes_out true (compared gate.require (standing_with (status_of change)) StatusIn)) ≡ false)
          ⊎ (comes_out false (compared gate.reject (standing_with (status_of change)) OpenState) ≡ false)
          → Broken change current set
      by_next change current set (inl out) = by_first change current set (one_fails _ _ out)
      by_next change current set (inr out) =
          (record { side = Reject; clause = OpenState }, out_rejected (compared gate.reject (standing_of change current set) OpenState) out)

      by_last : (change : Change) (current set : ℕ)
          → ((comes_out true (compared gate.require (standing_with (status_of change)) OpenState)
          && comes_out true (compared gate.require (standing_with (status_of change)) StatusIn)
          && comes_out false (compared gate.reject (standing_with (status_of change)) OpenState)) ≡ false)
          ⊎ (comes_out false (compared gate.reject (standing_with (status_of change)) StatusIn) ≡ false)
          → Broken change current set
      by_last change current set (inl out) = by_next change current set (one_fails _ _ out)
      by_last change current set (inr out) =
          (record { side = Reject; clause = StatusIn }, out_rejected (compared gate.reject (standing_of change current set) StatusIn) out)

-- it is said of a side only where it is so
pub none_in : (gate : GateRules) (side : Side) → shuts_out gate side ≡ true → lets_none_in gate ≡ true
none_in gate Require none = none
none_in gate Reject none = (both (not (asks_status gate.require)) (lets_none_in gate) none).1

-- ---- the current patch set

asked_twice : (required rejected : Option Bool) (so : Bool) → same_answer required rejected ≡ true
    → (option_map (same_flag so) required ≡ Some false) ⊎ (option_map (same_flag so) rejected ≡ Some true)
asked_twice None rejected so same = cc
asked_twice (Some required) None so same = cc
asked_twice (Some true) (Some true) true same = inr refl
asked_twice (Some true) (Some true) false same = inl refl
asked_twice (Some true) (Some false) so same = cc
asked_twice (Some false) (Some true) so same = cc
asked_twice (Some false) (Some false) true same = inl refl
asked_twice (Some false) (Some false) false same = inr refl

pub current_shut : (gate : GateRules) (side : Side) → is_current_never_met gate side ≡ true → LetsNothingIn gate
current_shut gate Reject never = cc
current_shut gate Require same = λ change current set. by_side change current set
    (asked_twice gate.require.is_current gate.reject.is_current _ same) where
      by_side : (change : Change) (current set : ℕ)
          → (compared gate.require (standing_of change current set) CurrentSet ≡ Some false)
          ⊎ (compared gate.reject (standing_of change current set) CurrentSet ≡ Some true)
          → (condition : Condition) × IsBroken gate (standing_of change current set) condition
      by_side change current set (inl broken) = (record { side = Require; clause = CurrentSet }, broken)
      by_side change current set (inr broken) = (record { side = Reject; clause = CurrentSet }, broken)

-- ---- approvals

wide : (other pattern : Option (List ℕ)) (voter : List ℕ) → (not (is_some other) || is_some pattern) ≡ true
    → names other (unwrap_or pattern []) ≡ true → names pattern voter ≡ true → names other voter ≡ true
wide None pattern voter is takes named = refl
wide (Some username) None voter is takes named = cc
wide (Some username) (Some name) voter is takes named =
    subst (λ t. bytes_eq username t ≡ true) ((bytes_eq-Decides name voter).0 named) takes

none_take : (labels : List LabelRule) (vote : GivenApproval) → has_none labels ≡ true → labels_take labels vote ≡ true
none_take [] vote is = refl
none_take (rule ∷ rules) vote is = cc

or_other : (a b : Bool) → a ≡ false → (a || b) ≡ true → b ≡ true
or_other true b not_a either = cc
or_other false b not_a either = either

pub all_hold : (a b : Bool) → a ≡ true → b ≡ true → (a && b) ≡ true
all_hold true b p q = q
all_hold false b p q = cc

module _ (rejected : List PatternRule) (pattern : PatternRule) (vote : GivenApproval)
    (real : is_no_vote vote.value ≡ false) (named : names pattern.username vote.voter ≡ true) where
  -- one takes the vote that takes the pattern's vote of its label and value
  takes_too : (other : PatternRule) (label : List ℕ) (value : ℤ) → label ≡ vote.label → value ≡ vote.value
      → (is_as_wide other pattern && matches other (wanted_vote pattern label value)) ≡ true → matches other vote ≡ true
  takes_too other label value same_label same_value is =
      let parts = both (is_as_wide other pattern) (matches other (wanted_vote pattern label value)) is in
      let takes = both (names other.username (unwrap_or pattern.username [])) (labels_take other.labels (wanted_vote pattern label value)) parts.1 in
      all_hold (names other.username vote.voter) (labels_take other.labels vote)
      (wide other.username pattern.username vote.voter parts.0 takes.0 named)
      (labels_so other.labels label value same_label same_value takes.1) where
        labels_so : (labels : List LabelRule) (l : List ℕ) (v : ℤ) → l ≡ vote.label → v ≡ vote.value
            → labels_take labels (wanted_vote pattern l v) ≡ true → labels_take labels vote ≡ true
        labels_so [] l v p q takes = refl
        labels_so (rule ∷ []) l v p q takes =
            subst (λ w. (bytes_eq rule.label vote.label && some (λ value. int_eq value w) rule.values) ≡ true) q
            (subst (λ k. (bytes_eq rule.label k && some (λ value. int_eq value v) rule.values) ≡ true) p takes)
        labels_so (rule ∷ other ∷ rules) l v p q takes = cc

  by_labels : (labels : List LabelRule) → rejects_each rejected pattern labels ≡ true → labels_take labels vote ≡ true
      → some (λ other. matches other vote) rejected ≡ true
  by_labels [] all takes =
      let found = some_in _ rejected all in
      let parts = both (is_as_wide found.0 pattern && names found.0.username (unwrap_or pattern.username [])) (has_none found.0.labels) found.3 in
      let first = both (is_as_wide found.0 pattern) (names found.0.username (unwrap_or pattern.username [])) parts.0 in
      some_at (λ other. matches other vote) rejected found.1 found.0 found.2
      (all_hold (names found.0.username vote.voter) (labels_take found.0.labels vote)
      (wide found.0.username pattern.username vote.voter first.0 first.1 named)
      (none_take found.0.labels vote parts.1))
  by_labels (rule ∷ []) all takes =
      let parts = both (bytes_eq rule.label vote.label) (some (λ value. int_eq value vote.value) rule.values) takes in
      let value = some_in _ rule.values parts.1 in
      let same : value.0 ≡ vote.value = (Decides-int_eq value.0 vote.value).0 value.3 in
      let found = some_in _ rejected (or_other (is_no_vote value.0) _ (ap is_no_vote same ∙ real)
      (each_at (rejects_votes rejected pattern rule.label) rule.values value.1 value.0 all value.2)) in
      some_at (λ other. matches other vote) rejected found.1 found.0 found.2
      (takes_too found.0 rule.label value.0 ((bytes_eq-Decides rule.label vote.label).0 parts.0) same found.3)
  by_labels (rule ∷ other ∷ rules) all takes = cc

pub is_rejected : (rejected : List PatternRule) (pattern : PatternRule)
    → rejects_each rejected pattern pattern.labels ≡ true → IsRejectedPattern rejected pattern
is_rejected rejected pattern all vote real takes =
    let parts = both (names pattern.username vote.voter) (labels_take pattern.labels vote) takes in
    by_labels rejected pattern vote real parts.0 pattern.labels all parts.1

-- an approval isn't 0
abbrev given : List GivenVote → List GivenApproval
given votes = approvals_among votes

given_at : (vote : GivenVote) (votes : List GivenVote) (k : ℕ) (approval : GivenApproval)
    → is_no_vote vote.value ≡ false
    → slice_get (approval_of vote ∷ given votes) k ≡ Some approval
    → ((j : ℕ) → slice_get (given votes) j ≡ Some approval → is_no_vote approval.value ≡ false)
    → is_no_vote approval.value ≡ false
given_at vote votes zero approval real at others =
    let same : approval_of vote ≡ approval = cc in
    sym (ap (λ (a : GivenApproval). is_no_vote a.value) same) ∙ real
given_at vote votes (suc k) approval real at others = others k at

-- the approvals of votes of which the first is none, or isn't
abbrev given_if : GivenVote → List GivenVote → Bool → List GivenApproval
given_if vote votes none = map approval_of (if not none
    then vote ∷ filter (λ (v : GivenVote). not (is_no_vote v.value)) votes
    else filter (λ (v : GivenVote). not (is_no_vote v.value)) votes)

given_by : (vote : GivenVote) (votes : List GivenVote) (k : ℕ) (approval : GivenApproval) (none : Bool)
    → is_no_vote vote.value ≡ none → slice_get (given (vote ∷ votes)) k ≡ Some approval
    → ((j : ℕ) → slice_get (given votes) j ≡ Some approval → is_no_vote approval.value ≡ false)
    → is_no_vote approval.value ≡ false
given_by vote votes k approval true none at others =
    others k (sym (ap (λ t. slice_get (given_if vote votes t) k) none) ∙ at)
given_by vote votes k approval false real at others =
    given_at vote votes k approval real (sym (ap (λ t. slice_get (given_if vote votes t) k) real) ∙ at) others

pub is_given : (votes : List GivenVote) (k : ℕ) (approval : GivenApproval) → slice_get (given votes) k ≡ Some approval
    → is_no_vote approval.value ≡ false
is_given [] k approval at = cc
is_given (vote ∷ votes) k approval at =
    given_by vote votes k approval (is_no_vote vote.value) refl at (λ j. is_given votes j approval)

pub approval_shut : (gate : GateRules) (place : ℕ) (pattern : PatternRule)
    → slice_get gate.require.approvals place ≡ Some pattern → IsRejectedPattern gate.reject.approvals pattern
    → LetsNothingIn gate
approval_shut gate place pattern at rejected = λ change current set. by_votes change current set _ refl where
  by_votes : (change : Change) (current set : ℕ) (met : Bool)
      → some (matches pattern) (approvals_of change current) ≡ met
      → (condition : Condition) × IsBroken gate (standing_of change current set) condition
  by_votes change current set false is = (
    record { side = Require; clause = Approval (suc place) },
    ap (option_map (λ (p : PatternRule). some (matches p) (approvals_of change current))) at ∙ ap Some is,
  )
  by_votes change current set true is =
      let vote = some_in (matches pattern) (approvals_of change current) is in
      let other = some_in (λ (p : PatternRule). matches p vote.0) gate.reject.approvals
      (rejected vote.0 (is_given (votes_of change current) vote.1 vote.0 vote.2) vote.3) in (
        record { side = Reject; clause = Approval (suc other.1) },
        ap (option_map (λ (p : PatternRule). some (matches p) (approvals_of change current))) other.2
            ∙ ap Some (some_at (matches other.0) (approvals_of change current) vote.1 vote.0 vote.2 other.3),
      )
