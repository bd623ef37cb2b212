-- Which items of a list are there twice.
use Rattle.std.proofs.Common.{◌≡◌, ◌<◌, ◌≤◌, ◌+◌, ◌-◌, ◌∙◌, zero, suc, ℕ, true, false, List, [], ◌∷◌, length, get_or}
use Rattle.std.proofs.Common.{refl, sym, ap, subst, arith}
use Rattle.std.specs.declared.cmp.Ordering.{Ordering}
use Rattle.std.specs.declared.cmp.Ordering.TheVariants.{Less, Equal, Greater}
use Rattle.std.specs.Ordering.{eq_by_cmp, is_eq, is_lt, ordering_reverse}
use Rattle.std.specs.List.Sorted.{IsPermutation, IsSorted}
use Rattle.std.proofs.lemmas.Bool.{false≢true}
use Rattle.std.proofs.lemmas.List.Sorted.{IsPermutation-sym}
use Rattle.std.proofs.lemmas.Map.Keys.{IsDistinct-IsPermutation, IsDistinct-from_sorted, apart_from_distinct}
use Rattle.std.proofs.lemmas.Map.Keys.{sorted_from_all_adjacent}
use Rattle.std.specs.Cmp.{eq_by_cmp_equiv, tied_itself}
use Rattle.state_core.specs.declared.item.Item.{Item}
use Rattle.state_core.specs.Items.{item_cmp}
use Rattle.state_core.specs.ItemLaws.{items_exact, items_total}
use Rattle.report_changes.specs.Listing.{is_same_item}
use Rattle.report_changes.specs.Searching.{same_is_one, item_is_itself}
use Rattle.enqueue_lines.specs.Groups.{AreNamedOnce}

apart_ways : (item : Item) (other : Item) (r : Ordering) → item_cmp item other ≡ r
    → is_lt (ordering_reverse r) ≡ false → is_same_item item other ≡ false → r ≡ Less
apart_ways item other Less is behind differ = refl
apart_ways item other Equal is behind differ =
    let same : item ≡ other = items_exact item other is in
    let alike : is_same_item item other ≡ true = subst (λ o. is_same_item item o ≡ true) same (item_is_itself item) in
    absurd (false≢true (sym differ ∙ alike))
apart_ways item other Greater is behind differ = absurd (false≢true (sym behind))

-- of items in order, each of which differs from the next, each comes before the next
pub comes_before : (item other : Item) → is_lt (item_cmp other item) ≡ false → is_same_item item other ≡ false
    → item_cmp item other ≡ Less
comes_before item other behind differ =
    apart_ways item other (item_cmp item other) refl
    (ap is_lt (sym (items_total.antisymm other item)) ∙ behind) differ

pub all_apart : (ordered : List Item) (d : Item)
    → ((k : ℕ) → k + 1 < length ordered → item_cmp (get_or ordered k d) (get_or ordered (k + 1) d) ≡ Less)
    → AreNamedOnce ordered
all_apart ordered d rising =
    IsDistinct-from_sorted item_cmp ordered (sorted_from_all_adjacent items_total ordered d rising)

pub not_apart : (ordered : List Item) (i j : ℕ) (d : Item) → i < j → j < length ordered
    → is_same_item (get_or ordered i d) (get_or ordered j d) ≡ true → ¬ AreNamedOnce ordered
not_apart ordered i j d before within same apart =
    let one : get_or ordered i d ≡ get_or ordered j d = same_is_one (get_or ordered i d) (get_or ordered j d) same in
    let differ = apart_from_distinct (eq_by_cmp item_cmp) ordered i j d apart before within in
    let alike : eq_by_cmp item_cmp (get_or ordered i d) (get_or ordered j d) ≡ true =
    subst (λ o. eq_by_cmp item_cmp (get_or ordered i d) o ≡ true) one (ap is_eq (tied_itself items_total (get_or ordered i d))) in
    false≢true (sym differ ∙ alike)

pub moved_apart : (items ordered : List Item) → IsPermutation items ordered → AreNamedOnce items → AreNamedOnce ordered
moved_apart items ordered moved apart =
    IsDistinct-IsPermutation (eq_by_cmp item_cmp)
    (λ x y. (eq_by_cmp_equiv items_total).symm x y) items ordered moved apart

pub back_apart : (items ordered : List Item) → IsPermutation items ordered → AreNamedOnce ordered → AreNamedOnce items
back_apart items ordered moved apart = moved_apart ordered items (IsPermutation-sym items ordered moved) apart

pub no_item : Item
no_item = record { change = 0; set = 0 }

same_default : (items : List Item) (i : ℕ) (d e : Item) → i < length items → get_or items i d ≡ get_or items i e
same_default [] i d e within = absurd (omega (arith, within))
same_default (x ∷ items) zero d e within = refl
same_default (x ∷ items) (suc i) d e within = same_default items i d e (omega (arith, within))

-- the next of items in order comes later, where it differs
pub next_less : (items : List Item) (index k : ℕ) (d e f : Item) → 1 ≤ index → index < length items → k + 1 ≡ index
    → IsSorted item_cmp items → is_same_item (get_or items (index - 1) e) (get_or items index f) ≡ false
    → item_cmp (get_or items k d) (get_or items (k + 1) d) ≡ Less
next_less items index k d e f some within next sorted differ =
    let before : index - 1 ≡ k = omega (arith, next) in
    let one : get_or items (index - 1) e ≡ get_or items k d = ap (λ n. get_or items n e) before ∙ same_default items k e d (omega (arith, within, next)) in
    let two : get_or items index f ≡ get_or items (k + 1) d = same_default items index f d within ∙ ap (λ n. get_or items n d) (sym next) in
    let apart : is_same_item (get_or items k d) (get_or items (k + 1) d) ≡ false =
    subst (λ o. is_same_item (get_or items k d) o ≡ false) two (subst (λ o. is_same_item o (get_or items index f) ≡ false) one differ) in
    comes_before (get_or items k d) (get_or items (k + 1) d)
    (sorted k d (omega arith) (omega (arith, within, next))) apart
