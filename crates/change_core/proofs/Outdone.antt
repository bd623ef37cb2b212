-- A register outdoes what is no greater: to write that changes nothing.
use Rattle.std.proofs.Common.{◌≡◌, Bool, true, false, not, cond, IsTrue, refl, sym, ap, ◌∙◌}
use Rattle.std.specs.declared.cmp.Ordering.{Ordering}
use Rattle.std.specs.declared.cmp.Ordering.TheVariants.{Less, Equal, Greater}
use Rattle.std.specs.Prelude.{◌==◌, ◌↔◌}
use Rattle.std.specs.Ordering.{is_lt, ord_max, ordering_index, ordering_reverse}
use Rattle.lattice_core.specs.Keep.{IsExactOrder}
use Rattle.lattice_core.specs.Greatest.{not_below-Covers}
use Rattle.lattice_core.specs.Join.{Covers}

one_of_two : {T : Type 0} (b : Bool) (x : T) → cond b x x ≡ x
one_of_two true x = refl
one_of_two false x = refl

Covers-from_not_below : {T : Type 0} {order : T → T → Ordering} → IsExactOrder order → (a b : T)
    → is_lt (order a b) ≡ false → Covers (ord_max order) a b
Covers-from_not_below {order = order} exact_order a b not_less =
    elim (order a b) as (λ r. order a b ≡ r → is_lt r ≡ false → ord_max order a b ≡ a) [
      | Less ↦ λ e h. cc
      | Equal ↦ λ e h. ap (cond (is_lt (order b a)) a) (sym (exact_order.exact a b e)) ∙ one_of_two (is_lt (order b a)) a
      | Greater ↦ λ e h. ap (λ r. cond (is_lt r) a b) (exact_order.total.antisymm b a ∙ ap ordering_reverse e)
    ] refl not_less

not_below : (r : Ordering) → not (ordering_index r == 0) ≡ true → is_lt r ≡ false
not_below Less e = cc
not_below Equal e = refl
not_below Greater e = refl

at_least : (r : Ordering) → is_lt r ≡ false → not (ordering_index r == 0) ≡ true
at_least Less e = cc
at_least Equal e = refl
at_least Greater e = refl

-- what isn't below covers, and nothing else does
pub Covers-by_order : {T : Type 0} {order : T → T → Ordering} → IsExactOrder order → (a b : T) (r : Ordering) (t : Bool)
    → r ≡ order a b → t ≡ not (ordering_index r == 0) → IsTrue t ↔ Covers (ord_max order) a b
Covers-by_order exact_order a b r t compared is = (
  λ yes. Covers-from_not_below exact_order a b (ap is_lt (sym compared) ∙ not_below r (sym is ∙ yes)),
  λ covers. is ∙ at_least r (ap is_lt compared ∙ not_below-Covers exact_order a b covers),
)
