-- A change that no new operation is on stays as it is, what was merged stays merged, and so what is not reached is
-- untouched.
use Rattle.std.proofs.Common.{◌≡◌, ◌⊎◌, ℕ, Bool, true, false, cond, ◌||◌, not, List, [], ◌∷◌, ◌++◌, Option, None, Some}
use Rattle.std.proofs.Common.{Contains, sym, ap, ◌∙◌, subst, refl, inl, inr}
use Rattle.std.specs.Prelude.{MatchOption}
use Rattle.std.specs.FinMap as finite
use Rattle.std.specs.Ordering.{nat_cmp, eq_by_cmp}
use Rattle.std.proofs.lemmas.Bool.{false≢true}
use Rattle.lattice_core.specs.Exact.{same_by_test, test_of_same}
use Rattle.lattice_core.specs.Join.{option_joined}
use Rattle.lattice_core.specs.JoinMap.{get-map_joined}
use Rattle.lattice_core.specs.Keep.{numbers_exact}
use Rattle.lattice_core.specs.MemberLaws.{Contains-first, Contains-none, Contains-of_filter, Contains-to_filter}
use Rattle.review_ops.specs.Deed.{change_of}
use Rattle.review_ops.specs.Operation.{Operation}
use Rattle.review_ops.specs.Timestamp.{Timestamp}
use Rattle.change_core.specs.Change.{Change, change_joined}
use Rattle.change_core.specs.StateOf.{IsStateOf}
use Rattle.change_core.specs.Views.{status_by, status_of}
use Rattle.change_core.specs.declared.life.Life.{Life}
use Rattle.change_core.specs.declared.life.Life.TheVariants as life
use Rattle.change_core.specs.declared.life.Status.{Status}
use Rattle.change_core.specs.declared.life.Status.TheVariants.{Merged}
use Rattle.walk_core.specs.Walks.{IsOfKind}
use Rattle.gate_rules.specs.Rules.{GateRules}
use Rattle.state_core.specs.declared.item.Item.{Item}
use Rattle.state_core.specs.State.{State, is_on, ops_on, state_of}
use Rattle.state_core.specs.StateLaws.{state_of-IsJournalState, state_of-append}
use Rattle.state_core.specs.Known.{IsMerged, merged_in}
use Rattle.state_core.specs.KnownLaws.{merged_test}
use Rattle.graph_core.specs.Dependencies.{Names}
use Rattle.watch_core.specs.Touched.{HoldsWhatWaits, IsTouched}
use Rattle.watch_core.specs.Untouched.{IsSame, IsSettled, IsUntouched, others}

-- what has an operation on the change touches it
touched_by : (later : List Operation) (number : ℕ) (op : Operation) → Contains (ops_on number later) op
    → IsTouched later number
touched_by later number op has =
    let found = Contains-of_filter (is_on number) later op has in
    record { op = op; there = found.0; on = sym (same_by_test numbers_exact number (change_of op.deed) found.1) }

touched_first : (later : List Operation) (number : ℕ) (ops : List Operation) → ops_on number later ≡ ops → ¬ (ops ≡ [])
    → IsTouched later number
touched_first later number [] is some = absurd (some refl)
touched_first later number (op ∷ ops) is some =
    touched_by later number op (subst (λ l. Contains l op) (sym is) (Contains-first op ops))

-- where no operation is on a change, the state has none
no_change_of : (later : List Operation) (number : ℕ) (found : Option Change) → MatchOption found
    (ops_on number later ≡ []) (λ c. (¬ (ops_on number later ≡ [])) × IsStateOf (ops_on number later) c)
    → ¬ IsTouched later number → found ≡ None
no_change_of later number None is untouched = refl
no_change_of later number (Some change) is untouched =
    absurd (untouched (touched_first later number (ops_on number later) refl is.0))

joined_none : (found : Option Change) → option_joined change_joined found None ≡ found
joined_none None = refl
joined_none (Some change) = refl

-- what the state has after more operations
pub after_is : (journal later : List Operation) (number : ℕ)
    → finite.get (state_of (journal ++ later)) number
    ≡ option_joined change_joined (finite.get (state_of journal) number) (finite.get (state_of later) number)
after_is journal later number =
    ap (λ state. finite.get state number) (state_of-append journal later)
    ∙ get-map_joined numbers_exact change_joined (state_of journal) (state_of later) number

pub stays_same : (journal later : List Operation) (number : ℕ) → ¬ IsTouched later number
    → IsSame (state_of journal) (state_of (journal ++ later)) number
stays_same journal later number untouched =
    let none = no_change_of later number (finite.get (state_of later) number) (state_of-IsJournalState later number) untouched in
    sym (after_is journal later number ∙ ap (option_joined change_joined (finite.get (state_of journal) number)) none ∙ joined_none (finite.get (state_of journal) number))

-- ---- merged is final
flag_of : (merged : Bool) (life : Option (Timestamp × Life)) → cond merged Merged (status_by life) ≡ Merged
    → merged ≡ true
flag_of true life is = refl
flag_of false None is = cc
flag_of false (Some (stamp, life.Abandoned)) is = cc
flag_of false (Some (stamp, life.Restored)) is = cc

status_by_flag : (merged : Bool) (other : Status) → merged ≡ true → cond merged Merged other ≡ Merged
status_by_flag true other is = refl
status_by_flag false other is = cc

joined_merged : (old : Change) (found : Option Change) → status_of old ≡ Merged
    → (new : Change) × (option_joined change_joined (Some old) found ≡ Some new) × (status_of new ≡ Merged)
joined_merged old None is = (old, refl, is)
joined_merged old (Some change) is =
    let flag : (old.merged || change.merged) ≡ true = ap (λ b. b || change.merged) (flag_of old.merged old.life is) in
    (change_joined old change, refl, status_by_flag (old.merged || change.merged) _ flag)

pub stays_merged : (journal later : List Operation) (number : ℕ) → IsMerged (state_of journal) number
    → IsMerged (state_of (journal ++ later)) number
stays_merged journal later number is =
    let new = joined_merged is.change (finite.get (state_of later) number) is.merged in
    record {
      change = new.0;
      stands = after_is journal later number
          ∙ ap (λ found. option_joined change_joined found (finite.get (state_of later) number)) is.stands ∙ new.1;
      merged = new.2;
    }

-- ---- what is not reached
none_touch : (later : List Operation) (number : ℕ) → ops_on number later ≡ [] → ¬ IsTouched later number
none_touch later number none touched =
    let on : is_on number touched.op ≡ true = subst (λ n. eq_by_cmp nat_cmp number n ≡ true) (sym touched.on) (test_of_same numbers_exact number) in
    Contains-none touched.op
    (subst (λ l. Contains l touched.op) none (Contains-to_filter (is_on number) later touched.op touched.there on))

touched_or_by : (later : List Operation) (number : ℕ) (ops : List Operation) → ops_on number later ≡ ops
    → IsTouched later number ⊎ ¬ IsTouched later number
touched_or_by later number [] is = inr (none_touch later number is)
touched_or_by later number (op ∷ ops) is =
    inl (touched_by later number op (subst (λ l. Contains l op) (sym is) (Contains-first op ops)))

touched_or_not : (later : List Operation) (number : ℕ) → IsTouched later number ⊎ ¬ IsTouched later number
touched_or_not later number = touched_or_by later number (ops_on number later) refl

merged_or_by : (state : State) (number : ℕ) (test : Bool) → merged_in (finite.get state number) ≡ test
    → IsMerged state number ⊎ ¬ IsMerged state number
merged_or_by state number true is = let means = merged_test state number in inl (means.0 is)
merged_or_by state number false is = let means = merged_test state number in inr
    (λ merged. false≢true (sym is ∙ means.1 merged))

pub not_both : (b : Bool) → b ≡ true → not b ≡ true → ⊥
not_both b is is_not = false≢true (sym (ap not is) ∙ is_not)

not_either : (a b : Bool) → (b ≡ true → a ≡ true) → not a ≡ true → not b ≡ true
not_either a true gives is_not = absurd (not_both a (gives refl) is_not)
not_either a false gives is_not = refl

module _ (gate : GateRules) (journal later : List Operation) (reached : Item → Bool)
    (holds : HoldsWhatWaits gate journal later reached) where
  own_same : (item : Item) → IsOfKind (others reached) item
      → IsSame (state_of journal) (state_of (journal ++ later)) item.change
  own_same item here =
      stays_same journal later item.change (λ touched. not_both (reached item) (holds.touched item touched) here)

  named_settled : (item : Item) (number : ℕ) → IsOfKind (others reached) item
      → Names gate (state_of journal) item number → IsSettled (state_of journal) (state_of (journal ++ later)) number
  named_settled item number here names = elim (touched_or_not later number) [
    | inl touched ↦ elim (merged_or_by (state_of journal) number (merged_in (finite.get (state_of journal) number)) refl) [
      | inl merged ↦ inr (merged, stays_merged journal later number merged)
      | inr unmerged ↦ absurd (not_both (reached item) (holds.waiting item number (names, unmerged) touched) here)
    ]
    | inr untouched ↦ inl (stays_same journal later number untouched)
  ]

  pub rest_untouched : IsUntouched gate (state_of journal) (state_of (journal ++ later)) (others reached)
  rest_untouched = record {
    own = own_same;
    named = named_settled;
    ends = λ item other here edge. not_either (reached item) (reached other) (holds.leading item other edge) here;
  }
