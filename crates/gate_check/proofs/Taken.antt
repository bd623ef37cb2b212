-- An approval that rejects nothing takes no vote; any other takes one that a record may hold.
use Rattle.std.proofs.Common.{◌≡◌, ℕ, ℤ, pos, suc, List, [], ◌∷◌, Bool, true, false, ap, codes, refl, sym, subst, ◌∙◌}
use Rattle.std.proofs.Common.{All, Option, Some, lit<, lit≤, option_map, rules}
use Rattle.std.specs.Prelude.{FitsSigned, if◌then◌else◌, slice_get}
use Rattle.std.specs.Int.{w8}
use Rattle.std.specs.Ordering.{int_eq}
use Rattle.std.specs.Str.{bytes_eq}
use Rattle.std.proofs.lemmas.Bool.{false≢true}
use Rattle.std.proofs.lemmas.Bool.Decides.{Decides-int_eq}
use Rattle.std.proofs.lemmas.List.Elements.{All-get_or, All-head}
use Rattle.std.proofs.lemmas.List.Sums.{AllPass-from_list_all}
use Rattle.std.proofs.lemmas.Option.{get_or_from_slice_get, slice_get_within}
use Rattle.std.proofs.lemmas.Slice.Eq.{bytes_eq-Decides}
use Rattle.change_core.specs.Votes.{GivenApproval, approvals_of, votes_of}
use Rattle.gate_rules.specs.Own.{labels_take, matches, names, some, takes}
use Rattle.gate_rules.specs.Reading.{each}
use Rattle.gate_rules.specs.Rules.{GateRules, LabelRule, PatternRule}
use Rattle.gate_rules.specs.declared.condition.Clause.TheVariants.{Approval}
use Rattle.gate_rules.specs.declared.condition.Side.TheVariants.{Reject}
use Rattle.review_ops.specs.Deed.{vote}
use Rattle.review_ops.specs.Good.{IsGood, IsKeptLabel, IsVoter, is_label_byte}
use Rattle.gate_check.specs.Meeting.{IsNeverBroken, IsWritable, TakesVoteOf, is_no_vote, takes_no_vote}
use Rattle.gate_check.proofs.Shut.{all_hold, both, each_at, is_given, some_at, some_in}

-- ---- one that rejects nothing

none_taken : (labels : List LabelRule) (given : GivenApproval) → takes_no_vote labels ≡ true
    → is_no_vote given.value ≡ false → labels_take labels given ≡ true → ⊥
none_taken [] given none real taken = cc
none_taken (rule ∷ []) given none real taken =
    let parts = both (bytes_eq rule.label given.label) (some (λ value. int_eq value given.value) rule.values) taken in
    let value = some_in _ rule.values parts.1 in
    let same : value.0 ≡ given.value = (Decides-int_eq value.0 given.value).0 value.3 in
    false≢true (sym real ∙ ap is_no_vote (sym same) ∙ each_at is_no_vote rule.values value.1 value.0 none value.2)
none_taken (rule ∷ other ∷ rules) given none real taken = cc

the_value : (o : Option PatternRule) (pattern : PatternRule) (test : PatternRule → Bool) → o ≡ Some pattern
    → option_map test o ≡ Some true → test pattern ≡ true
the_value o pattern test at is =
    let here : Some (test pattern) ≡ Some true = sym (ap (option_map test) at) ∙ is in cc

pub never_broken : (gate : GateRules) (place : ℕ) (pattern : PatternRule)
    → slice_get gate.reject.approvals place ≡ Some pattern → takes_no_vote pattern.labels ≡ true
    → IsNeverBroken gate (record { side = Reject; clause = Approval (suc place) })
never_broken gate place pattern at none change current set broken =
    let approvals = approvals_of change current in
    let met = the_value (slice_get gate.reject.approvals place) pattern (λ p. some (matches p) approvals) at broken in
    let given = some_in (matches pattern) approvals met in
    none_taken pattern.labels given.0 none (is_given (votes_of change current) given.1 given.0 given.2)
    (both (names pattern.username given.0.voter) (labels_take pattern.labels given.0) given.3).1

-- ---- any other

module _ {X : Type 0} (test : X → Bool) where
  one_isnt : (xs : List X) → each test xs ≡ false → (x : X) × (k : ℕ) × (slice_get xs k ≡ Some x) × (test x ≡ false)
  one_isnt [] e = cc
  one_isnt (x ∷ xs) e =
      elim (test x) as (λ b. test x ≡ b → (if b then each test xs else false) ≡ false → (y : X) × (k : ℕ) × (slice_get (x ∷ xs) k ≡ Some y) × (test y ≡ false)) [
        | true ↦ λ is later. let found = one_isnt xs later in (found.0, suc found.1, found.2, found.3)
        | false ↦ λ is later. (x, 0, refl, is)
      ] refl e

element : {X : Type 0} (P : X → Type 0) (xs : List X) (k : ℕ) (x : X) → slice_get xs k ≡ Some x → All P xs → P x
element P xs k x at all =
    subst P (get_or_from_slice_get xs k x x at) (All-get_or P xs k x (slice_get_within xs k x at) all)

-- a vote of these values by a voter, if the label and the value fit
held_vote : (label voter : List ℕ) (value : ℤ) → IsKeptLabel label → IsVoter voter → FitsSigned w8 value
    → IsGood (vote 1 1 label voter value)
held_vote label voter value is_label is_voter fits = record {
  change = record { from_one = lit≤ tt; fits = lit< tt };
  set = record { from_one = lit≤ tt; fits = lit< tt };
  message = tt;
  parent = tt;
  label = is_label;
  voter = is_voter;
  value = fits;
}

some_label : IsKeptLabel (codes "verified")
some_label = record {
  label = record {
    some = lit≤ tt;
    short = lit≤ tt;
    letters = AllPass-from_list_all is_label_byte (codes "verified") refl;
  };
  lower = refl;
}

by_labels : (username : Option (List ℕ)) (labels : List LabelRule) (voter : List ℕ) → takes_no_vote labels ≡ false
    → All IsWritable labels → IsVoter voter → names username voter ≡ true
    → TakesVoteOf (record { username = username; labels = labels }) voter
by_labels username [] voter some_taken writable is_voter named = record {
  label = codes "verified";
  value = pos 1;
  held = held_vote (codes "verified") voter (pos 1) some_label is_voter (search rules);
  real = refl;
  taken = all_hold (names username voter) true named refl;
}
by_labels username (rule ∷ []) voter some_taken writable is_voter named =
    let value = one_isnt is_no_vote rule.values some_taken in
    let first = All-head IsWritable rule [] writable in
    let of_rule : takes rule (record { label = rule.label; voter = voter; value = value.0 }) ≡ true = all_hold (bytes_eq rule.label rule.label) (some (λ v. int_eq v value.0) rule.values)
    ((bytes_eq-Decides rule.label rule.label).1 refl)
    (some_at (λ v. int_eq v value.0) rule.values value.1 value.0 value.2 ((Decides-int_eq value.0 value.0).1 refl)) in
    record {
      label = rule.label;
      value = value.0;
      held = held_vote rule.label voter value.0 first.label is_voter (element (FitsSigned w8) rule.values value.1 value.0 value.2 first.values);
      real = value.3;
      taken = all_hold (names username voter) (takes rule (record { label = rule.label; voter = voter; value = value.0 })) named of_rule;
    }
by_labels username (rule ∷ other ∷ rules) voter some_taken writable is_voter named = cc

pub some_taken : (pattern : PatternRule) (voter : List ℕ) → takes_no_vote pattern.labels ≡ false
    → All IsWritable pattern.labels → IsVoter voter → names pattern.username voter ≡ true → TakesVoteOf pattern voter
some_taken pattern voter = by_labels pattern.username pattern.labels voter
