-- What a binary search over items in order finds.
use Rattle.std.proofs.Common.{◌≡◌, ◌≢◌, ◌≤◌, ◌<◌, ◌+◌, ◌-◌, ℕ, Bool, true, false, List, Contains, leb, refl, sym, ◌∙◌}
use Rattle.std.proofs.Common.{subst, arith, inl, inr}
use Rattle.std.specs.Prelude.{slice_get, Option, Some, None}
use Rattle.std.specs.Option.{SomeIff}
use Rattle.std.specs.declared.cmp.Ordering.{Ordering}
use Rattle.std.specs.declared.cmp.Ordering.TheVariants.{Less, Equal, Greater}
use Rattle.std.specs.Ordering.{is_lt}
use Rattle.std.specs.List.Sorted.{IsStrictlySortedBy, IsPartitionedBy, IsPartitionPoint, IsNonDecreasingBy}
use Rattle.std.proofs.lemmas.Bool.{le-leb, leb-true, false≢true}
use Rattle.std.proofs.lemmas.List.Sorted.{IsPartitionedBy-leb}
use Rattle.std.proofs.lemmas.Option.{slice_get_within, get_or_from_slice_get, slice_get-get_or}
use Rattle.state_core.specs.declared.item.Item.{Item}
use Rattle.state_core.specs.Items.{item_cmp}
use Rattle.graph_core.specs.ItemGraph.{IsAt}
use Rattle.graph_core.specs.Listed.{IsLastOf}
use Rattle.lattice_core.specs.PlaceLaws.{earlier_or_same, one_item, sorted_at, not_below_itself, at_Contains, at_below}
use Rattle.state_core.specs.ItemLaws.{changes_rise, items_total}

less_unless : (m n : ℕ) → (n ≤ m → ⊥) → m < n
less_unless m n h = omega (arith, h)

-- the parts of what partition_point says, at items by place
module _ (p : Item → Bool) (items : List Item) (after : ℕ)
    (point : IsPartitionPoint (λ y. p y ≡ true) (λ y. p y ≡ false) items after) where
  pub passes : (place : ℕ) (item : Item) → IsAt items place item → place < after → p item ≡ true
  passes place item here less =
      subst (λ x. p x ≡ true) (get_or_from_slice_get items place item item here) (point.0 place item (omega arith) less)

  pub fails : (place : ℕ) (item : Item) → IsAt items place item → after ≤ place → p item ≡ false
  fails place item here h = subst (λ x. p x ≡ false) (get_or_from_slice_get items place item item here)
      (point.1 place item h (slice_get_within items place item here))

  -- an item that passes comes before the point, one that fails behind it
  pub before : (place : ℕ) (item : Item) → IsAt items place item → p item ≡ true → place < after
  before place item here passed = less_unless place after (λ h. false≢true (sym (fails place item here h) ∙ passed))

-- ---- the last item of a change
pub rising : (items : List Item) → IsStrictlySortedBy item_cmp items
    → IsNonDecreasingBy (λ (item : Item). item.change) items
rising items sorted i j d h less = changes_rise items sorted i j _ _ h
    (slice_get-get_or items i d (omega (arith, h, less))) (slice_get-get_or items j d less)

pub up_to_partitioned : (items : List Item) (number : ℕ) → IsStrictlySortedBy item_cmp items
    → IsPartitionedBy (λ (item : Item). leb item.change number) items
up_to_partitioned items number sorted =
    IsPartitionedBy-leb (λ (item : Item). item.change) items number (rising items sorted)

module _ (items : List Item) (number after : ℕ) (sorted : IsStrictlySortedBy item_cmp items) (point : IsPartitionPoint (λ (item : Item). leb item.change number ≡ true) (λ (item : Item). leb item.change number ≡ false) items after) where
  -- an item of the change comes before the point
  of_before : (place : ℕ) (item : Item) → IsAt items place item → item.change ≡ number → place < after
  of_before place item here of = before (λ item. leb item.change number) items after point place item here
      (le-leb item.change number (omega (arith, of)))

  pub none_before : after ≡ 0 → (place : ℕ) (item : Item) → IsAt items place item → item.change ≢ number
  none_before none place item here of = absurd (omega (arith, none, of_before place item here of))

  pub none_at : (place : ℕ) (last : Item) → after ≡ place + 1 → IsAt items place last → last.change ≢ number
      → (other_place : ℕ) (item : Item) → IsAt items other_place item → item.change ≢ number
  none_at place last after_is here differs other_place item there of =
      let low = changes_rise items sorted other_place place item last (omega (arith, after_is, of_before other_place item there of)) there here in
      let high = leb-true last.change number (passes (λ item. leb item.change number) items after point place last here (omega (arith, after_is))) in
      differs (omega (arith, low, high, of))

  pub last_at : (place : ℕ) (last : Item) → after ≡ place + 1 → IsAt items place last → last.change ≡ number
      → IsLastOf items number place
  last_at place last after_is here of = record {
    item = last;
    here = here;
    of = of;
    last = λ other_place other there of_it. omega (arith, after_is, of_before other_place other there of_it);
  }

-- what checked_sub answered
pub point_of_some : (found : Option ℕ) (point place : ℕ) → SomeIff found (1 ≤ point) (point - 1) → found ≡ Some place
    → point ≡ place + 1
point_of_some None point place sub is = cc
point_of_some (Some x) point place sub is = let same : x ≡ place = cc in omega (arith, sub.0, sub.1, same)

pub point_of_none : (found : Option ℕ) (point : ℕ) → SomeIff found (1 ≤ point) (point - 1) → found ≡ None → point ≡ 0
point_of_none None point sub is = omega (arith, sub)
point_of_none (Some x) point sub is = cc

-- ---- the place of an item
abbrev pub stands_before : Item → Item → Bool
stands_before item other = is_lt (item_cmp other item)

less_of : (r : Ordering) → is_lt r ≡ true → r ≡ Less
less_of Less e = refl
less_of Equal e = absurd (false≢true e)
less_of Greater e = absurd (false≢true e)

pub of_less : (r : Ordering) → r ≡ Less → is_lt r ≡ true
of_less r e = subst (λ o. is_lt o ≡ true) (sym e) refl

same_place : (place point : ℕ) → ¬ (place < point) → ¬ (point < place) → place ≡ point
same_place place point p q = omega (arith, p, q)

module _ (items : List Item) (sorted : IsStrictlySortedBy item_cmp items) (item : Item) where
  below_at : (i j : ℕ) (x y : Item) → i ≤ j → slice_get items i ≡ Some x → slice_get items j ≡ Some y
      → item_cmp y item ≡ Less → item_cmp x item ≡ Less
  below_at i j x y h at_i at_j less = elim (earlier_or_same i j h) [
    | inl earlier ↦ items_total.trans x y item (sorted_at item_cmp items sorted i j x y earlier at_i at_j) less
    | inr same ↦ subst (λ z. item_cmp z item ≡ Less)
        (one_item items j y x at_j (subst (λ k. slice_get items k ≡ Some x) same at_i)) less
  ]

  pub before_partitioned : IsPartitionedBy (stands_before item) items
  before_partitioned i j d h less yes_j =
      of_less _ (below_at i j _ _ h (slice_get-get_or items i d (omega (arith, h, less))) (slice_get-get_or items j d less) (less_of _ yes_j))

  pub found_at : (point : ℕ)
      → IsPartitionPoint (λ y. stands_before item y ≡ true) (λ y. stands_before item y ≡ false) items point
      → Contains items item → IsAt items point item
  found_at point is has =
      let there = at_Contains items item has in
      subst (λ k. IsAt items k item) (same_place there.0 point
      (λ less. not_below_itself items_total item (less_of _ (passes (stands_before item) items point is there.0 item there.1 less)))
      (λ less.
      let next = at_below items point (omega (arith, less, slice_get_within items there.0 item there.1)) in
      false≢true (sym (fails (stands_before item) items point is point next.0 next.1 (omega arith)) ∙ of_less _ (sorted_at item_cmp items sorted point there.0 next.0 item less next.1 there.1)))) there.1
