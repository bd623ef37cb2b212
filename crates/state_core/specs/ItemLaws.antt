-- Laws of the order of items, and of lists sorted by it.
use Rattle.std.specs.Prelude.{◌≡◌, ◌≤◌, ◌<◌, ◌&&◌, ℕ, Bool, true, false, not, List, Some, slice_get}
use Rattle.std.specs.declared.cmp.Ordering.{Ordering}
use Rattle.std.specs.declared.cmp.Ordering.TheVariants.{Less, Equal, Greater}
use Rattle.std.specs.Ordering.{nat_cmp, ordering_then, MatchOrdering}
use Rattle.std.specs.Cmp.{IsTotalOrder, nat_cmp_total}
use Rattle.std.specs.List.Sorted.{IsStrictlySortedBy}
use Rattle.std.proofs.Common.{eqb, refl, sym, ap, ◌∙◌, subst, arith, inl, inr}
use Rattle.std.proofs.lemmas.Bool.{eq-eqb, eqb-true, false≢true}
use Rattle.std.proofs.lemmas.Cmp.{on_total, then_total, ranked}
use Rattle.std.proofs.lemmas.Map.Lookups.{CmpEqualImpliesEq, exact_pairs, exact_unsigned}
use Rattle.lattice_core.specs.Keep.{IsExactOrder}
use Rattle.lattice_core.specs.PlaceLaws.{sorted_at, one_item, earlier_or_same}
use Rattle.state_core.specs.declared.item.Item.{Item}
use Rattle.state_core.specs.Items.{item_cmp}

pub items_total : IsTotalOrder item_cmp
items_total = then_total (on_total (λ (item : Item). item.change) nat_cmp_total)
    (on_total (λ (item : Item). item.set) nat_cmp_total)

-- items that compare equal are equal
pub items_exact : CmpEqualImpliesEq item_cmp
items_exact a b h = ap (λ (p : ℕ × ℕ). record { change = p.0; set = p.1 })
    (exact_pairs nat_cmp nat_cmp exact_unsigned exact_unsigned (a.change, a.set) (b.change, b.set) h)

pub items_order : IsExactOrder item_cmp
items_order = record { total = items_total; exact = items_exact }

-- an item that comes first has no greater change number
at_most_by : (r s : Ordering) (m n : ℕ) → MatchOrdering r (m < n) (m ≡ n) (n < m) → ordering_then r s ≡ Less → m ≤ n
at_most_by Less s m n ranks e = omega (arith, ranks)
at_most_by Equal s m n ranks e = omega (arith, ranks)
at_most_by Greater s m n ranks e = cc

pub item_cmp-change : (a b : Item) → item_cmp a b ≡ Less → a.change ≤ b.change
item_cmp-change a b less = at_most_by (nat_cmp a.change b.change) (nat_cmp a.set b.set) a.change b.change
    (ranked a.change b.change (nat_cmp a.change b.change) refl) less

pub changes_rise : (items : List Item) → IsStrictlySortedBy item_cmp items → (i j : ℕ) (x y : Item) → i ≤ j
    → slice_get items i ≡ Some x → slice_get items j ≡ Some y → x.change ≤ y.change
changes_rise items sorted i j x y h at_i at_j = elim (earlier_or_same i j h) [
  | inl less ↦ item_cmp-change x y (sorted_at item_cmp items sorted i j x y less at_i at_j)
  | inr same ↦ let e : x ≡ y = one_item items i x y at_i (subst (λ k. slice_get items k ≡ Some y) (sym same) at_j) in subst (λ z. x.change ≤ z.change) e (omega arith)
]

-- ---- the Boolean test whether two items differ
both_true : (p q : Bool) → not (p && q) ≡ false → (p ≡ true) × (q ≡ true)
both_true true true is = (refl, refl)
both_true true false is = cc
both_true false q is = cc

pub items_apart : (a b : Item) (differs : Bool) → differs ≡ not (eqb a.change b.change && eqb a.set b.set) → differs ≡ true
    → ¬ (a ≡ b)
items_apart a b differs is does same =
    let change : eqb a.change b.change ≡ true = eq-eqb a.change b.change (ap (λ (i : Item). i.change) same) in
    let set : eqb a.set b.set ≡ true = eq-eqb a.set b.set (ap (λ (i : Item). i.set) same) in
    let alike : not (eqb a.change b.change && eqb a.set b.set) ≡ false = ap (λ p. not (p && eqb a.set b.set)) change ∙ ap not set in
    false≢true (sym alike ∙ sym is ∙ does)

pub items_alike : (a b : Item) (differs : Bool) → differs ≡ not (eqb a.change b.change && eqb a.set b.set) → differs ≡ false
    → a ≡ b
items_alike a b differs is no_difference =
    let both = both_true (eqb a.change b.change) (eqb a.set b.set) (sym is ∙ no_difference) in
    let change : a.change ≡ b.change = eqb-true a.change b.change both.0 in
    let set : a.set ≡ b.set = eqb-true a.set b.set both.1 in
    λ i. record { change = change i; set = set i }
