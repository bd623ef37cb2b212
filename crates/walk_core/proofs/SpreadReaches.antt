-- What a search finds: all that steps over sought nodes lead to.
use Rattle.std.proofs.Common.{◌≡◌, ◌⊎◌, inl, inr, ℕ, zero, suc, List, refl, ◌∙◌, subst}
use Rattle.std.specs.List.{Contains}
use Rattle.walk_core.specs.Walks.{Walk, IsReachedOver, Reaches-trans}
use Rattle.walk_core.specs.Components.{place_of, HasSpread}
use Rattle.walk_core.specs.declared.component.Place.{Place}

module _ (E : ℕ → ℕ → Type 0) (sought found : Place) (start : ℕ) (before after : List Place) (nodes : List ℕ)
    (spread : HasSpread E sought found start before after nodes) where
  step_finds : (x y : ℕ) → (x ≡ start) ⊎ Contains nodes x → E x y → place_of before y ≡ sought → Contains nodes y
  step_finds x y from step was = elim (spread.each y) [
    | inl same ↦ absurd (spread.closed x y from step (same ∙ was))
    | inr here ↦ here
  ]

  walk_finds : (n x z : ℕ) → (x ≡ start) ⊎ Contains nodes x → ((y : ℕ) → E x y → IsReachedOver E start y) → Walk E (suc n) x z
      → ((y m : ℕ) → IsReachedOver E start y → Walk E m y z → place_of before y ≡ sought) → Contains nodes z
  walk_finds zero x z from comes walk good =
      let step : E x z = subst (λ w. E x w) walk.2 walk.1 in
      step_finds x z from step (good z 0 (comes z step) refl)
  walk_finds (suc n) x z from comes walk good =
      let y = walk.0 in
      let reached = comes y walk.1 in
      let here = step_finds x y from walk.1 (good y (suc n) reached walk.2) in
      walk_finds n y z (inr here) (λ w step. Reaches-trans E start y w reached (0, (w, step, refl))) walk.2 good

  -- a node is found if each node on every walk to it was sought
  pub reaches_finds : (z : ℕ) → IsReachedOver E start z
      → ((y m : ℕ) → IsReachedOver E start y → Walk E m y z → place_of before y ≡ sought) → Contains nodes z
  reaches_finds z p good = walk_finds p.0 start z (inl refl) (λ w step. (0, (w, step, refl))) p.1 good
