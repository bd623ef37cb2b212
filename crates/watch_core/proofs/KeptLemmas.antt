-- What kept verdicts say of the own conditions of untouched items, and how many items are touched.
use Rattle.std.proofs.Common.{◌≡◌, ◌≤◌, ◌+◌, ℕ, Bool, true, false, cond, eqb, List, [], ◌∷◌, Contains, Option, None}
use Rattle.std.proofs.Common.{Some, filter, length, take, drop, refl, sym, ap, ◌∙◌, subst, arith}
use Rattle.std.specs.Prelude.{MatchOption}
use Rattle.std.specs.List.{Any}
use Rattle.std.proofs.lemmas.Bool.{eq-eqb, eqb-true, false≢true}
use Rattle.std.proofs.lemmas.List.{length-append, take-append-drop}
use Rattle.std.proofs.lemmas.List.Elements.{filter-append}
use Rattle.std.proofs.lemmas.List.Folds.{Any-from_list_any, list_any-from_Any}
use Rattle.std.specs.List.Sorted.{IsStrictlySortedBy}
use Rattle.std.proofs.lemmas.List.Kept.{IsStrictlySortedBy-filter}
use Rattle.lattice_core.specs.MemberLaws.{Contains-first, Contains-none, Contains-of_filter, Contains-of_map}
use Rattle.lattice_core.specs.MemberLaws.{Contains-to_filter}
use Rattle.walk_core.specs.SortedLists.{sorted_same}
use Rattle.review_ops.specs.Deed.{change_of}
use Rattle.review_ops.specs.Operation.{Operation}
use Rattle.gate_rules.specs.Own.{IsOwn}
use Rattle.gate_rules.specs.Rules.{GateRules}
use Rattle.gate_rules.specs.declared.condition.Condition.{Condition}
use Rattle.state_core.specs.declared.item.Item.{Item}
use Rattle.state_core.specs.State.{State, state_of}
use Rattle.state_core.specs.Items.{IsItem, item_cmp}
use Rattle.state_core.specs.ItemLaws.{items_total}
use Rattle.ready_core.specs.Refusals.{IsFree, IsReady, IsRefused}
use Rattle.ready_core.specs.Verdicts.{AreVerdicts, Judged}
use Rattle.ready_core.specs.declared.verdicts.Left.{Left}
use Rattle.ready_core.specs.declared.verdicts.Refusal.{Refusal}
use Rattle.ready_core.specs.declared.verdicts.Refusal.TheVariants.{Own, Cycle, Unknown, Dependency}
use Rattle.watch_core.specs.Asked.{AreTouchedItems, counted}
use Rattle.watch_core.specs.KeptOwns.{IsOutWith, is_of_touched}
use Rattle.watch_core.specs.Touched.{IsTouched, touches}
use Rattle.watch_core.specs.Untouched.{IsSame}
use Rattle.watch_core.proofs.Local.{same_item, same_own}
use Rattle.watch_core.proofs.Stays.{stays_same}

-- ---- the test of what is touched
pub touched_of : (later : List Operation) (number : ℕ) → touches later number ≡ true → IsTouched later number
touched_of later number h =
    let found : Any (λ (op : Operation). eqb (change_of op.deed) number ≡ true) later = Any-from_list_any (λ (op : Operation). eqb (change_of op.deed) number) later h in
    record { op = found.1; there = (found.0, found.2, found.3); on = eqb-true (change_of found.1.deed) number found.4 }

pub touches_of : (later : List Operation) (number : ℕ) → IsTouched later number → touches later number ≡ true
touches_of later number is =
    list_any-from_Any (λ (op : Operation). eqb (change_of op.deed) number) later
    (is.there.0, is.op, is.there.1, is.there.2, eq-eqb (change_of is.op.deed) number is.on)

untouched_of : (later : List Operation) (number : ℕ) → touches later number ≡ false → ¬ IsTouched later number
untouched_of later number h is = false≢true (sym h ∙ touches_of later number is)

-- ---- kept own conditions
module _ (gate : GateRules) (state : State) (kept : Judged) (are : AreVerdicts gate state kept) (item : Item)
    (there : IsItem state item) where
  free_by : (refusal : Refusal) (rank : ℕ) → ((condition : Condition) → ¬ (refusal ≡ Own condition))
      → IsRefused gate state item refusal rank → IsFree gate state item
  free_by (Own condition) rank other is = absurd (other condition refl)
  free_by Cycle rank other is = is.0
  free_by (Unknown number) rank other is = is.0
  free_by (Dependency number) rank other is = is.0.own

  none_kept : ((condition : Condition) → ¬ IsOutWith kept.out item condition) → IsFree gate state item
  none_kept none = λ change current stands greatest condition broken.
      let unready : ¬ IsReady gate state item = λ ready.
      let eligible = ready.closed.members item ready.has in eligible.own change current stands greatest condition broken in
      let left = Contains-of_map (λ (l : Left). l.item) kept.out item ((are.out item).1 (there, unready)) in
      let refused = subst (λ i. IsRefused gate state i left.0.refusal left.0.rank) left.2 (are.refused left.0 left.1) in
      let free = free_by left.0.refusal left.0.rank (λ own same. none own (record { left = left.0; there = left.1; of = left.2; own = same })) refused in
      free change current stands greatest condition broken

  some_kept : (condition : Condition) → IsOutWith kept.out item condition → IsOwn gate state item (Some condition)
  some_kept condition out =
      let refused = subst (λ i. IsRefused gate state i out.left.refusal out.left.rank) out.of (are.refused out.left out.there) in
      let own : IsRefused gate state item (Own condition) out.left.rank = subst (λ r. IsRefused gate state item r out.left.rank) out.own refused in
      own.0

  kept_own_is : (own : Option Condition)
      → MatchOption own ((condition : Condition) → ¬ IsOutWith kept.out item condition) (IsOutWith kept.out item)
      → IsOwn gate state item own
  kept_own_is None none = none_kept none
  kept_own_is (Some condition) out = some_kept condition out

-- of an item whose change no later operation is on
pub own_stays : (gate : GateRules) (journal : List Operation) (seen : ℕ) (kept : Judged) (item : Item)
    (own : Option Condition) → AreVerdicts gate (state_of (take seen journal)) kept
    → IsItem (state_of journal) item → touches (drop seen journal) item.change ≡ false
    → MatchOption own ((condition : Condition) → ¬ IsOutWith kept.out item condition) (IsOutWith kept.out item)
    → IsOwn gate (state_of journal) item own
own_stays gate journal seen kept item own are there untouched found =
    let same : IsSame (state_of (take seen journal)) (state_of journal) item.change =
    subst (λ (l : List Operation). IsSame (state_of (take seen journal)) (state_of l) item.change)
    (take-append-drop seen journal)
    (stays_same (take seen journal) (drop seen journal) item.change (untouched_of (drop seen journal) item.change untouched)) in
    same_own gate (state_of (take seen journal)) (state_of journal) item own same
    (kept_own_is gate (state_of (take seen journal)) kept are item (same_item (state_of journal) (state_of (take seen journal)) item (sym same) there) own found)

-- ---- how many items are touched
pub touched_count : (state : State) (items : List Item) (later : List Operation) (count : ℕ)
    → IsStrictlySortedBy item_cmp items → ((item : Item) → Contains items item → IsItem state item)
    → ((item : Item) → IsItem state item → touches later item.change ≡ true → Contains items item)
    → AreTouchedItems state later count → length (filter (is_of_touched later) items) ≡ count
touched_count state items later count in_order each has_touched is =
    let same : is.members ≡ filter (is_of_touched later) items =
    sorted_same items_total is.members (filter (is_of_touched later) items) is.in_order
    (IsStrictlySortedBy-filter item_cmp (is_of_touched later) items in_order) (λ item. (
      λ has.
          let found = (is.just item).0 has in
          let touched = touches_of later item.change found.1 in
          Contains-to_filter (is_of_touched later) items item (has_touched item found.0 touched) touched,
      λ has.
          let found = Contains-of_filter (is_of_touched later) items item has in
          (is.just item).1 (each item found.0, touched_of later item.change found.1),
    )) in
    ap length (sym same) ∙ is.size

-- ---- counts
pub counted_none : (a : ℕ) → counted a 0 ≡ a
counted_none a = omega arith

pub counted_more : (a n : ℕ) → counted (counted a n) 1 ≡ counted a (n + 1)
counted_more a n = omega arith

pub counted_below : (a m n : ℕ) → m ≤ n → counted a m ≤ counted a n
counted_below a m n h = omega (arith, h)

pub at_least : (a n : ℕ) → a ≤ counted a n
at_least a n = omega arith

-- one item more
pub counted_step : (start now after n : ℕ) (is : Bool) (all : ℕ) → now ≡ counted start n
    → after ≡ counted now (cond is 1 0) → all ≡ n + cond is 1 0 → after ≡ counted start all
counted_step start now after n true all so_far step more =
    step ∙ ap (λ k. counted k 1) so_far ∙ counted_more start n ∙ ap (counted start) (sym more)
counted_step start now after n false all so_far step more =
    step ∙ counted_none now ∙ so_far ∙ ap (counted start) (omega (arith, more))

pub filter_taken : {X : Type 0} (p : X → Bool) (k : ℕ) (xs : List X)
    → length (filter p (take k xs)) ≤ length (filter p xs)
filter_taken p k xs =
    let e = sym (filter-append p (take k xs) (drop k xs)) ∙ ap (filter p) (take-append-drop k xs) in
    let sizes = length-append (filter p (take k xs)) (filter p (drop k xs)) in
    omega (arith, sizes, ap length e)

-- no later operation touches no item
counted_members : {X : Type 0} (xs : List X) → ((x : X) → ¬ Contains xs x) → length xs ≡ 0
counted_members [] none = refl
counted_members (x ∷ xs) none = absurd (none x (Contains-first x xs))

pub none_touched : (state : State) (later : List Operation) (count : ℕ) → later ≡ [] → AreTouchedItems state later count
    → count ≡ 0
none_touched state later count none is =
    sym is.size ∙ counted_members is.members (λ item has.
    let found = (is.just item).0 has in
    Contains-none found.1.op (subst (λ (l : List Operation). Contains l found.1.op) none found.1.there))
