-- How a search among items in order comes to its answer.
use Rattle.std.proofs.Common.{◌≡◌, ◌<◌, ◌∙◌, ℕ, Bool, true, false, not, List, length, get_or}
use Rattle.std.proofs.Common.{refl, sym, ap, subst, arith, Result, Ok, Err, eqb}
use Rattle.std.specs.Prelude.{Contains, ◌&&◌, is_ok}
use Rattle.std.specs.declared.cmp.Ordering.{Ordering}
use Rattle.std.specs.declared.cmp.Ordering.TheVariants.{Less, Equal, Greater}
use Rattle.std.specs.List.{list_any}
use Rattle.std.specs.List.Sorted.{IsSorted, IsSearchInRange, IsBinarySearchResult}
use Rattle.std.proofs.lemmas.Bool.{eq-eqb, false≢true}
use Rattle.std.proofs.lemmas.List.Folds.{Any-from_list_any, list_any-from_Any}
use Rattle.std.proofs.lemmas.List.Elements.{Contains-get_or}
use Rattle.std.proofs.lemmas.List.Sorted.{searchable_from_sorted}
use Rattle.std.specs.Cmp.{tied_itself}
use native.Mathlib.Decide.{dec_lt}
use Rattle.state_core.specs.declared.item.Item.{Item}
use Rattle.state_core.specs.Items.{item_cmp}
use Rattle.state_core.specs.ItemLaws.{items_alike, items_exact, items_total}
use Rattle.report_changes.specs.Listing.{is_same_item}

pub both_ways : (a b : Bool) → (a ≡ true → b ≡ true) → (b ≡ true → a ≡ true) → a ≡ b
both_ways true true f g = refl
both_ways true false f g = sym (f refl)
both_ways false true f g = g refl
both_ways false false f g = refl

pub same_is_one : (a b : Item) → is_same_item a b ≡ true → a ≡ b
same_is_one a b e = items_alike a b (not (is_same_item a b)) refl (ap not e)

pub both_hold : (p q : Bool) → p ≡ true → q ≡ true → (p && q) ≡ true
both_hold true true p q = refl
both_hold true false p q = q
both_hold false q p is = p

pub item_is_itself : (a : Item) → is_same_item a a ≡ true
item_is_itself a =
    both_hold (eqb a.change a.change) (eqb a.set a.set) (eq-eqb a.change a.change refl) (eq-eqb a.set a.set refl)

pub found : {X : Type 0} (p : X → Bool) (xs : List X) → list_any p xs ≡ true → (x : X) × Contains xs x × (p x ≡ true)
found p xs any = let a = Any-from_list_any p xs any in (a.1, (a.0, a.2, a.3), a.4)

pub finds : {X : Type 0} (p : X → Bool) (xs : List X) (x : X) → Contains xs x → p x ≡ true → list_any p xs ≡ true
finds p xs x c e = list_any-from_Any p xs (c.0, x, c.1, c.2, e)

-- ---- a search for an item

differs : (item : Item) → (r : Ordering) → item_cmp item item ≡ r → ¬ (r ≡ Less) × ¬ (r ≡ Greater)
differs item r e =
    let tied : item_cmp item item ≡ Equal = tied_itself items_total item in
    (λ less. let bad : Less ≡ Equal = sym less ∙ sym e ∙ tied in cc, λ greater. let bad : Greater ≡ Equal = sym greater ∙ sym e ∙ tied in cc)

pub searched : (item : Item) (ordered : List Item) (r : Result ℕ ℕ) → IsSorted item_cmp ordered
    → IsSearchInRange r (length ordered) → IsBinarySearchResult (λ y. item_cmp y item) ordered r
    → is_ok r ≡ list_any (is_same_item item) ordered
searched item ordered (Ok i) sorted range at =
    let within : i < length ordered = range in
    let same : get_or ordered i item ≡ item = items_exact (get_or ordered i item) item (at item) in
    sym (finds (is_same_item item) ordered item (subst (Contains ordered) same (Contains-get_or ordered i item within)) (item_is_itself item))
searched item ordered (Err i) sorted range parted =
    let point = parted (searchable_from_sorted items_total (λ (x : Item). x) ordered item sorted) in
    both_ways false (list_any (is_same_item item) ordered) (λ e. absurd (false≢true e)) (λ any.
    let there = found (is_same_item item) ordered any in
    let same : item ≡ there.0 = same_is_one item there.0 there.2 in
    let has : Contains ordered item = subst (Contains ordered) (sym same) there.1 in
    elim (dec_lt has.0 i) [
      | Prim.yes less ↦ absurd ((differs item (item_cmp item item) refl).0 (subst (λ y. item_cmp y item ≡ Less) has.2 (point.0 has.0 item (omega arith) less)))
      | Prim.no behind ↦ absurd ((differs item (item_cmp item item) refl).1 (subst (λ y. item_cmp y item ≡ Greater) has.2 (point.1 has.0 item (omega (arith, behind)) has.1)))
    ])
