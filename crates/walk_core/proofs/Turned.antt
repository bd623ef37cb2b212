-- Walks over edges turned round.
use Rattle.std.proofs.Common.{◌≡◌, ◌+◌, ℕ, zero, suc, refl, sym, subst, arith}
use Rattle.walk_core.specs.Walks.{Walk, IsReachedOver, Leads-after}

module _ {N : Type 0} (E : N → N → Type 0) where
  pub Walk-turned : (n : ℕ) (x y : N) → Walk (λ a b. E b a) n x y → Walk E n y x
  Walk-turned zero x y same = sym same
  Walk-turned (suc n) x y walk =
      let e : n + 1 ≡ suc n = omega arith in
      subst (λ k. Walk E k y x) e
      (Leads-after E (λ z. z ≡ x) n 1 y walk.0 (Walk-turned n walk.0 y walk.2) (x, walk.1, refl))

  pub Reaches-turned : (x y : N) → IsReachedOver (λ a b. E b a) x y → IsReachedOver E y x
  Reaches-turned x y p = (p.0, Walk-turned (suc p.0) x y p.1)

  -- a walk goes on where one of an edge or more ends, and the other way round
  pub Reaches-walk : (m : ℕ) (x y z : N) → IsReachedOver E x y → Walk E m y z → IsReachedOver E x z
  Reaches-walk m x y z p walk =
      let e : suc p.0 + m ≡ suc (p.0 + m) = omega arith in
      (p.0 + m, subst (λ k. Walk E k x z) e (Leads-after E (λ w. w ≡ z) (suc p.0) m x y p.1 walk))

  pub Walk-reaches : (m : ℕ) (x y z : N) → Walk E m x y → IsReachedOver E y z → IsReachedOver E x z
  Walk-reaches m x y z walk p =
      let e : m + suc p.0 ≡ suc (m + p.0) = omega arith in
      (m + p.0, subst (λ k. Walk E k x z) e (Leads-after E (λ w. w ≡ z) m (suc p.0) x y walk p.1))
