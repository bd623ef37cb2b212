-- A pattern of which every vote is rejected is found to be so: one that isn't takes a vote that no other one takes, by
-- a voter or of a label that none of them names.
use Rattle.std.proofs.Common.{◌≡◌, ◌<◌, ℕ, zero, suc, ℤ, pos, List, [], ◌∷◌, ◌++◌, Bool, true, false, not, ◌&&◌, ◌||◌}
use Rattle.std.proofs.Common.{length, map}
use Rattle.std.proofs.Common.{Option, None, Some, is_some, ap, refl, ◌∙◌, sym, subst, arith}
use Rattle.std.specs.Prelude.{if◌then◌else◌, slice_get, unwrap_or, option_map}
use Rattle.std.specs.Ordering.{int_eq}
use Rattle.std.specs.Str.{bytes_eq}
use Rattle.std.proofs.lemmas.Bool.{false_from_ne_true}
use Rattle.std.proofs.lemmas.Bool.Decides.{Decides-int_eq}
use Rattle.std.proofs.lemmas.List.{length-append}
use Rattle.std.proofs.lemmas.Option.{slice_get-map}
use Rattle.std.proofs.lemmas.Slice.Eq.{bytes_eq-Decides}
use Rattle.change_core.specs.Votes.{GivenApproval}
use Rattle.gate_rules.specs.Own.{labels_take, matches, names, some, takes}
use Rattle.gate_rules.specs.Reading.{each}
use Rattle.gate_rules.specs.Rules.{LabelRule, PatternRule}
use Rattle.gate_check.specs.Meeting.{IsRejectedPattern, has_none, is_as_wide, is_no_vote, rejects_each, rejects_votes}
use Rattle.gate_check.specs.Meeting.{wanted_vote}
use Rattle.gate_check.proofs.Shut.{all_hold, both, some_at, some_in}

-- ---- a text that differs from each of these: it is longer

abbrev fresh : List (List ℕ) → List ℕ
fresh [] = 0 ∷ []
fresh (text ∷ texts) = 0 ∷ (text ++ fresh texts)

longer : (texts : List (List ℕ)) (k : ℕ) (text : List ℕ) → slice_get texts k ≡ Some text
    → length text < length (fresh texts)
longer [] k text at = cc
longer (first ∷ texts) zero text at =
    let same : first ≡ text = cc in
    subst (λ t. length t < length (fresh (first ∷ texts))) same (omega (arith, length-append first (fresh texts)))
longer (first ∷ texts) (suc k) text at =
    let later = longer texts k text at in omega (arith, later, length-append first (fresh texts))

differs : (texts : List (List ℕ)) (k : ℕ) (text : List ℕ) → slice_get texts k ≡ Some text
    → bytes_eq text (fresh texts) ≡ false
differs texts k text at = false_from_ne_true (bytes_eq text (fresh texts)) (λ e.
    let same = ap length ((bytes_eq-Decides text (fresh texts)).0 e) in
    let long = longer texts k text at in absurd (omega (arith, long, same)))

-- ---- voters and labels

abbrev name_of : PatternRule → List ℕ
name_of pattern = unwrap_or pattern.username []

abbrev first_label : List LabelRule → List ℕ
first_label [] = []
first_label (rule ∷ rules) = rule.label

abbrev label_of : PatternRule → List ℕ
label_of pattern = first_label pattern.labels

none_named : (username : Option (List ℕ)) (voter : List ℕ) → bytes_eq (unwrap_or username []) voter ≡ false
    → names username voter ≡ true → username ≡ None
none_named None voter differ named = refl
none_named (Some name) voter differ named = cc

no_label : (labels : List LabelRule) (vote : GivenApproval) → bytes_eq (first_label labels) vote.label ≡ false
    → labels_take labels vote ≡ true → has_none labels ≡ true
no_label [] vote differ taken = refl
no_label (rule ∷ []) vote differ taken =
    let same : bytes_eq rule.label vote.label ≡ true = (both (bytes_eq rule.label vote.label) _ taken).0 in
    let other : bytes_eq rule.label vote.label ≡ false = differ in cc
no_label (rule ∷ other ∷ rules) vote differ taken = cc

-- the voter whom a pattern names, or one whom no other names
abbrev voter_for : Option (List ℕ) → List PatternRule → List ℕ
voter_for (Some name) rejected = name
voter_for None rejected = fresh (map name_of rejected)

takes_voter : (username : Option (List ℕ)) (rejected : List PatternRule)
    → names username (voter_for username rejected) ≡ true
takes_voter (Some name) rejected = (bytes_eq-Decides name name).1 refl
takes_voter None rejected = refl

or_true : (b : Bool) → (b || true) ≡ true
or_true true = refl
or_true false = refl

wide_enough : (username : Option (List ℕ)) (rejected : List PatternRule) (other : PatternRule) (k : ℕ)
    → slice_get rejected k ≡ Some other → names other.username (voter_for username rejected) ≡ true
    → ((not (is_some other.username) || is_some username) ≡ true)
    × (names other.username (unwrap_or username []) ≡ true)
wide_enough (Some name) rejected other k at named = (or_true (not (is_some other.username)), named)
wide_enough None rejected other k at named =
    let there = slice_get-map name_of rejected k ∙ ap (option_map name_of) at in
    let none = none_named other.username (fresh (map name_of rejected)) (differs (map name_of rejected) k (name_of other) there) named in
    (subst (λ u. (not (is_some u) || false) ≡ true) (sym none) refl, subst (λ u. names u [] ≡ true) (sym none) refl)

-- what labels take doesn't depend on the voter
of_any_voter : (labels : List LabelRule) (label one other : List ℕ) (value : ℤ)
    → labels_take labels (record { label = label; voter = one; value = value }) ≡ true
    → labels_take labels (record { label = label; voter = other; value = value }) ≡ true
of_any_voter [] label one other value takes = takes
of_any_voter (rule ∷ []) label one other value takes = takes
of_any_voter (rule ∷ second ∷ rules) label one other value takes = takes

-- ---- the test

each_all : {X : Type 0} (test : X → Bool) (xs : List X) → ((k : ℕ) (x : X) → slice_get xs k ≡ Some x → test x ≡ true)
    → each test xs ≡ true
each_all test [] all = refl
each_all test (x ∷ xs) all =
    ap (λ b. if b then each test xs else false) (all 0 x refl) ∙ each_all test xs (λ k y at. all (suc k) y at)

or_else : (a b : Bool) → (a ≡ false → b ≡ true) → (a || b) ≡ true
or_else true b other = refl
or_else false b other = other refl

module _ (rejected : List PatternRule) (pattern : PatternRule) (all : IsRejectedPattern rejected pattern) where
  abbrev vote_on : List ℕ → ℤ → GivenApproval
  vote_on label value = record { label = label; voter = voter_for pattern.username rejected; value = value }

  -- one that takes a vote of the label and the value
  one_takes : (label : List ℕ) (value : ℤ) → is_no_vote value ≡ false
      → labels_take pattern.labels (vote_on label value) ≡ true
      → (other : PatternRule) × (k : ℕ) × (slice_get rejected k ≡ Some other)
      × (is_as_wide other pattern ≡ true) × (names other.username (unwrap_or pattern.username []) ≡ true)
      × (labels_take other.labels (vote_on label value) ≡ true)
  one_takes label value real takes =
      let vote = vote_on label value in
      let found = some_in (λ (other : PatternRule). matches other vote) rejected
      (all vote real (all_hold (names pattern.username vote.voter) (labels_take pattern.labels vote) (takes_voter pattern.username rejected) takes)) in
      let parts = both (names found.0.username vote.voter) (labels_take found.0.labels vote) found.3 in
      let enough = wide_enough pattern.username rejected found.0 found.1 found.2 parts.0 in
      (found.0, found.1, found.2, enough.0, enough.1, parts.1)

  by_labels : (labels : List LabelRule) → labels ≡ pattern.labels → rejects_each rejected pattern labels ≡ true
  by_labels [] same =
      let label = fresh (map label_of rejected) in
      let found = one_takes label (pos 1) refl (subst (λ ls. labels_take ls (vote_on label (pos 1)) ≡ true) same refl) in
      let there = slice_get-map label_of rejected found.1 ∙ ap (option_map label_of) found.2 in
      let none = no_label found.0.labels (vote_on label (pos 1)) (differs (map label_of rejected) found.1 (label_of found.0) there) found.5 in
      some_at
      (λ (other : PatternRule). is_as_wide other pattern && names other.username (unwrap_or pattern.username []) && has_none other.labels)
      rejected found.1 found.0 found.2
      (all_hold (is_as_wide found.0 pattern && names found.0.username (unwrap_or pattern.username [])) (has_none found.0.labels)
      (all_hold (is_as_wide found.0 pattern) (names found.0.username (unwrap_or pattern.username [])) found.3 found.4) none)
  by_labels (rule ∷ []) same = each_all (rejects_votes rejected pattern rule.label) rule.values (λ k value at.
      let vote = vote_on rule.label value in
      let of_rule : takes rule vote ≡ true = all_hold (bytes_eq rule.label rule.label)
      (some (λ v. int_eq v value) rule.values)
      ((bytes_eq-Decides rule.label rule.label).1 refl)
      (some_at (λ v. int_eq v value) rule.values k value at ((Decides-int_eq value value).1 refl)) in
      or_else (is_no_vote value) _ (λ real.
      let found = one_takes rule.label value real (subst (λ ls. labels_take ls vote ≡ true) same of_rule) in
      some_at
      (λ (other : PatternRule). is_as_wide other pattern && matches other (wanted_vote pattern rule.label value))
      rejected found.1 found.0 found.2
      (all_hold (is_as_wide found.0 pattern) (matches found.0 (wanted_vote pattern rule.label value)) found.3
      (all_hold (names found.0.username (unwrap_or pattern.username [])) (labels_take found.0.labels (wanted_vote pattern rule.label value)) found.4
      (of_any_voter found.0.labels rule.label (voter_for pattern.username rejected) (unwrap_or pattern.username []) value found.5)))))
  by_labels (rule ∷ other ∷ rules) same = refl

pub is_found : (rejected : List PatternRule) (pattern : PatternRule) → IsRejectedPattern rejected pattern
    → rejects_each rejected pattern pattern.labels ≡ true
is_found rejected pattern all = by_labels rejected pattern all pattern.labels refl
