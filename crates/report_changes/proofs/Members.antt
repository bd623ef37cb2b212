-- What the tests of a listing say of its members.
use Rattle.std.proofs.Common.{◌≡◌, ◌∙◌, ℕ, Bool, true, false, not, List, [], ◌∷◌, map, cond, get_or}
use Rattle.std.proofs.Common.{refl, sym, ap, subst, arith, inl, inr}
use Rattle.std.specs.Prelude.{Contains, ◌&&◌, ◌||◌, ◌⊎◌, filter, is_some, Option, Some, None, MatchOption}
use Rattle.std.specs.Prelude.{slice_get, option_map}
use Rattle.std.specs.declared.cmp.Ordering.{Ordering}
use Rattle.std.specs.declared.cmp.Ordering.TheVariants.{Less}
use Rattle.std.specs.List.{list_any, AllByRecursion}
use Rattle.std.specs.List.Sorted.{IsSorted, IsStrictlySortedBy}
use Rattle.std.proofs.lemmas.Bool.{eq-eqb, eqb-true, false≢true}
use Rattle.state_core.specs.declared.item.Item.{Item}
use Rattle.state_core.specs.Items.{item_cmp}
use Rattle.state_core.specs.ItemLaws.{items_total}
use Rattle.std.proofs.lemmas.Option.{get_or_from_slice_get, slice_get-map}
use Rattle.lattice_core.specs.MemberLaws.{Contains-of_map, Contains-to_map}
use Rattle.lattice_core.specs.PlaceLaws.{Contains-at, at_Contains, one_place}
use Rattle.lattice_core.specs.PlaceLaws.{one_item as one_at}
use Rattle.ready_core.specs.declared.verdicts.Left.{Left}
use Rattle.ready_core.specs.declared.verdicts.Refusal.{Refusal}
use Rattle.ready_core.specs.Verdicts.{IsOutAt, Judged, items_out}
use Rattle.ready_core.specs.declared.verdicts.Refusal.TheVariants.{Own, Cycle, Unknown, Dependency}
use Rattle.gate_rules.specs.declared.condition.Side.{Side}
use Rattle.gate_rules.specs.declared.condition.Side.TheVariants.{Require, Reject}
use Rattle.gate_rules.specs.declared.condition.Clause.{Clause}
use Rattle.gate_rules.specs.declared.condition.Clause.TheVariants.{OpenState, CurrentSet, StatusIn, Approval}
use Rattle.report_changes.specs.Keeping.{AreSortedListings}
use Rattle.report_changes.specs.Searching.{both_hold, both_ways, finds, found, same_is_one, item_is_itself}
use Rattle.report_changes.specs.Listing.{IsLeftOutFor, is_out, is_out_for, is_ready, is_waiting, same_clause}
use Rattle.report_changes.specs.Listing.{is_same_item, same_refusal, same_side}

-- ---- those that are kept of a list in order

all_kept : {X Y : Type 0} (P : Y → Type 0) (f : X → Y) (p : X → Bool) (xs : List X) → AllByRecursion P (map f xs)
    → AllByRecursion P (map f (filter p xs))
all_kept P f p [] all = tt
all_kept P f p (x ∷ xs) all =
    elim (p x) as (λ b. AllByRecursion P (map f (cond b (x ∷ filter p xs) (filter p xs)))) [
      | true ↦ (all.0, all_kept P f p xs all.1)
      | false ↦ all_kept P f p xs all.1
    ]

pub sorted_kept : {X Y : Type 0} (cmp : Y → Y → Ordering) (f : X → Y) (p : X → Bool) (xs : List X)
    → IsStrictlySortedBy cmp (map f xs) → IsStrictlySortedBy cmp (map f (filter p xs))
unfolding IsStrictlySortedBy
sorted_kept cmp f p [] sorted = tt
sorted_kept cmp f p (x ∷ xs) sorted =
    elim (p x) as (λ b. IsStrictlySortedBy cmp (map f (cond b (x ∷ filter p xs) (filter p xs)))) [
      | true ↦ (all_kept (λ y. cmp (f x) y ≡ Less) f p xs sorted.0, sorted_kept cmp f p xs sorted.1)
      | false ↦ sorted_kept cmp f p xs sorted.1
    ]

-- ---- what the tests of a listing say

pub not_so : (b : Bool) → ¬ (b ≡ true) → b ≡ false
not_so true n = absurd (n refl)
not_so false n = refl

pub is_false : (b : Bool) → not b ≡ true → b ≡ false
is_false true e = sym e
is_false false e = refl

pub either : (p q : Bool) → (p || q) ≡ true → (p ≡ true) ⊎ (q ≡ true)
either true q e = inl refl
either false q e = inr e

pub neither : (p q : Bool) → (p || q) ≡ false → (p ≡ false) × (q ≡ false)
neither true q e = absurd (false≢true (sym e))
neither false q e = (refl, e)

pub ready_has : (listing : Judged) (item : Item) → is_ready listing item ≡ true → Contains listing.ready item
ready_has listing item e =
    let there = found (is_same_item item) listing.ready e in
    subst (Contains listing.ready) (sym (same_is_one item there.0 there.2)) there.1

pub has_ready : (listing : Judged) (item : Item) → Contains listing.ready item → is_ready listing item ≡ true
has_ready listing item c = finds (is_same_item item) listing.ready item c (item_is_itself item)

pub out_has : (listing : Judged) (item : Item) → is_out listing item ≡ true
    → (left : Left) × Contains listing.out left × (left.item ≡ item)
out_has listing item e =
    let there = found (λ left. is_same_item item left.item) listing.out e in
    (there.0, there.1, sym (same_is_one item there.0.item there.2))

pub has_out : (listing : Judged) (left : Left) → Contains listing.out left → is_out listing left.item ≡ true
has_out listing left c =
    finds (λ other. is_same_item left.item other.item) listing.out left c (item_is_itself left.item)

both_true : (p q : Bool) → (p && q) ≡ true → (p ≡ true) × (q ≡ true)
both_true true q e = (refl, e)
both_true false q e = absurd (false≢true e)

same_sides : (a b : Side) → same_side a b ≡ true → a ≡ b
same_sides Require Require e = refl
same_sides Require Reject e = absurd (false≢true e)
same_sides Reject Require e = absurd (false≢true e)
same_sides Reject Reject e = refl

side_itself : (a : Side) → same_side a a ≡ true
side_itself Require = refl
side_itself Reject = refl

clause_itself : (a : Clause) → same_clause a a ≡ true
clause_itself OpenState = refl
clause_itself CurrentSet = refl
clause_itself StatusIn = refl
clause_itself (Approval n) = eq-eqb n n refl

same_clauses : (a b : Clause) → same_clause a b ≡ true → a ≡ b
same_clauses OpenState OpenState e = refl
same_clauses CurrentSet CurrentSet e = refl
same_clauses StatusIn StatusIn e = refl
same_clauses (Approval m) (Approval n) e = ap Approval (eqb-true m n e)
same_clauses a b e = absurd (false≢true e)

pub same_refusals : (a b : Refusal) → same_refusal a b ≡ true → a ≡ b
same_refusals (Own a) (Own b) e =
    let both = both_true (same_side a.side b.side) (same_clause a.clause b.clause) e in
    let side = same_sides a.side b.side both.0 in
    let clause = same_clauses a.clause b.clause both.1 in
    λ i. Own (record { side = side i; clause = clause i })
same_refusals Cycle Cycle e = refl
same_refusals (Unknown m) (Unknown n) e = ap Unknown (eqb-true m n e)
same_refusals (Dependency m) (Dependency n) e = ap Dependency (eqb-true m n e)
same_refusals a b e = absurd (false≢true e)

pub out_for_has : (listing : Judged) (left : Left) → is_out_for listing left ≡ true
    → (other : Left) × Contains listing.out other × (other.item ≡ left.item) × (other.refusal ≡ left.refusal)
out_for_has listing left e =
    let there = found (λ other. is_same_item left.item other.item && same_refusal left.refusal other.refusal) listing.out e in
    let both = both_true (is_same_item left.item there.0.item) (same_refusal left.refusal there.0.refusal) there.2 in
    (there.0, there.1, sym (same_is_one left.item there.0.item both.0), sym (same_refusals left.refusal there.0.refusal both.1))

-- a list in order has one that is left out for each item
pub one_left : (out : List Left) → IsStrictlySortedBy item_cmp (items_out out) → (a b : Left) → Contains out a
    → Contains out b → a.item ≡ b.item → a ≡ b
one_left out sorted a b in_a in_b same =
    let at_a = at_Contains out a in_a in
    let at_b = at_Contains out b in_b in
    let item_a : slice_get (items_out out) at_a.0 ≡ Some a.item = slice_get-map (λ left. left.item) out at_a.0 ∙ ap (option_map (λ left. left.item)) at_a.1 in
    let item_b : slice_get (items_out out) at_b.0 ≡ Some a.item = slice_get-map (λ left. left.item) out at_b.0 ∙ ap (option_map (λ left. left.item)) at_b.1 ∙ ap Some (sym same) in
    let place = one_place items_total (items_out out) sorted at_a.0 at_b.0 a.item item_a item_b in
    one_at out at_b.0 a b (subst (λ p. slice_get out p ≡ Some a) place at_a.1) at_b.1

pub refusal_itself : (a : Refusal) → same_refusal a a ≡ true
refusal_itself (Own a) =
    both_hold (same_side a.side a.side) (same_clause a.clause a.clause) (side_itself a.side) (clause_itself a.clause)
refusal_itself Cycle = refl
refusal_itself (Unknown m) = eq-eqb m m refl
refusal_itself (Dependency m) = eq-eqb m m refl

-- ---- the refusal of an item

pub none_out : (out : List Left) (item : Item) → ((left : Left) → Contains out left → ¬ (left.item ≡ item))
    → ¬ Contains (items_out out) item
none_out out item none has =
    let there = Contains-of_map (λ (left : Left). left.item) out item has in
    none there.0 there.1 there.2

pub refused_at : (out : List Left) (item : Item) (place : ℕ) (d : Left) → IsOutAt out item place
    → IsLeftOutFor out item (get_or out place d).refusal
refused_at out item place d at =
    let read : get_or out place d ≡ at.left = get_or_from_slice_get out place at.left d at.here in
    (at.left, Contains-at out place at.left at.here, at.of, ap (λ (left : Left). left.refusal) (sym read))

pub out_by : (listing : Judged) (item : Item) (r : Option Refusal)
    → MatchOption r (¬ Contains (items_out listing.out) item) (IsLeftOutFor listing.out item)
    → is_some r ≡ is_out listing item
out_by listing item None none =
    sym (not_so (is_out listing item) (λ e.
    let there = out_has listing item e in
    none (subst (Contains (items_out listing.out)) there.2 (Contains-to_map (λ (left : Left). left.item) listing.out there.0 there.1))))
out_by listing item (Some refusal) refused =
    sym (subst (λ i. is_out listing i ≡ true) refused.2 (has_out listing refused.0 refused.1))

pub none_for : (listing : Judged) (left : Left) → ¬ Contains (items_out listing.out) left.item
    → false ≡ is_out_for listing left
none_for listing left none = sym (not_so (is_out_for listing left) (λ e.
    let there = out_for_has listing left e in
    none (subst (Contains (items_out listing.out)) there.2 (Contains-to_map (λ (l : Left). l.item) listing.out there.0 there.1))))

pub for_by : (listing : Judged) → IsStrictlySortedBy item_cmp (items_out listing.out)
    → (left : Left) (refusal : Refusal)
    → IsLeftOutFor listing.out left.item refusal → same_refusal left.refusal refusal ≡ is_out_for listing left
for_by listing sorted left refusal refused = both_ways (same_refusal left.refusal refusal) (is_out_for listing left)
    (λ e. finds (λ other. is_same_item left.item other.item && same_refusal left.refusal other.refusal) listing.out refused.0 refused.1
    (both_hold (is_same_item left.item refused.0.item) (same_refusal left.refusal refused.0.refusal)
    (subst (λ i. is_same_item left.item i ≡ true) (sym refused.2) (item_is_itself left.item))
    (subst (λ r. same_refusal left.refusal r ≡ true) (sym refused.3) e)))
    (λ e.
    let there = out_for_has listing left e in
    let one : there.0 ≡ refused.0 = one_left listing.out sorted there.0 refused.0 there.1 refused.1 (there.2 ∙ sym refused.2) in
    let same : left.refusal ≡ refusal = sym there.3 ∙ ap (λ (l : Left). l.refusal) one ∙ refused.3 in
    subst (λ r. same_refusal left.refusal r ≡ true) same (refusal_itself left.refusal))

-- ---- how a listing is kept

pub nothing_kept : (ready ordered : List Item) (out : List Left) → ready ≡ [] → ordered ≡ [] → out ≡ []
    → AreSortedListings ready ordered out
unfolding IsStrictlySortedBy
nothing_kept ready ordered out no_ready no_ordered no_out = record {
  same = λ test. ap (list_any test) (no_ordered ∙ sym no_ready);
  ordered_is = subst (IsSorted item_cmp) (sym no_ordered) (λ k d low high. absurd (omega (arith, high)));
  out_is = subst (λ l. IsStrictlySortedBy item_cmp (items_out l)) (sym no_out) tt;
}

pub kept_so : (verdicts : Judged) (ready ordered : List Item) (out : List Left)
    → IsStrictlySortedBy item_cmp (items_out verdicts.out) → ready ≡ verdicts.ready
    → ((test : Item → Bool) → list_any test ordered ≡ list_any test verdicts.ready) → IsSorted item_cmp ordered
    → out ≡ filter is_waiting verdicts.out → AreSortedListings ready ordered out
kept_so verdicts ready ordered out sorted is_ready same in_order is_out = record {
  same = λ test. same test ∙ ap (list_any test) (sym is_ready);
  ordered_is = in_order;
  out_is = subst (λ l. IsStrictlySortedBy item_cmp (items_out l)) (sym is_out)
      (sorted_kept item_cmp (λ (left : Left). left.item) is_waiting verdicts.out sorted);
}
