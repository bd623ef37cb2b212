-- What a map of registers shows once a register is joined in.
use Rattle.std.specs.Prelude.{◌≡◌, true, false, cond, Option, None, Some}
use Rattle.std.specs.declared.cmp.Ordering.{Ordering}
use Rattle.std.specs.Ordering.{eq_by_cmp}
use Rattle.std.specs.FinMap.{FinMap, empty, get, insert, get-insert, get-empty}
use Rattle.std.proofs.Common.{refl, sym, ap, ◌∙◌}
use Rattle.lattice_core.specs.Exact.{same_by_test, test_of_same}
use Rattle.lattice_core.specs.Join.{option_joined}
use Rattle.lattice_core.specs.JoinMap.{map_joined, get-map_joined}
use Rattle.lattice_core.specs.Keep.{IsExactOrder}

pub none_joined : {T : Type 0} (joined : T → T → T) (o : Option T) → option_joined joined o None ≡ o
none_joined joined None = refl
none_joined joined (Some x) = refl

module _ {S T : Type 0} {key : S → S → Ordering} (exact_order : IsExactOrder key) (joined : T → T → T)
    (m : FinMap key T) (k : S) (v : T) where
  joined_entry : (q : S) → get (map_joined joined m (insert empty k v)) q ≡ option_joined joined (get m q)
      (cond (eq_by_cmp key q k) (Some v) None)
  joined_entry q =
      get-map_joined exact_order joined m (insert empty k v) q
      ∙ ap (option_joined joined (get m q))
      (get-insert exact_order.total empty k v q ∙ ap (cond (eq_by_cmp key q k) (Some v)) (get-empty key q))

  -- at the key itself the register is joined in
  pub at_key : get (map_joined joined m (insert empty k v)) k ≡ option_joined joined (get m k) (Some v)
  at_key = joined_entry k ∙ ap (λ t. option_joined joined (get m k) (cond t (Some v) None)) (test_of_same exact_order k)

  -- what is shown at each key stays, where it stays at the key itself
  pub shown_as_before : {Y : Type 0} (show : Option T → Y)
      → show (option_joined joined (get m k) (Some v)) ≡ show (get m k)
      → (q : S) → show (get m q) ≡ show (get (map_joined joined m (insert empty k v)) q)
  shown_as_before show same q =
      sym (ap show (joined_entry q)
      ∙ elim (eq_by_cmp key q k) as (λ t. eq_by_cmp key q k ≡ t → show (option_joined joined (get m q) (cond t (Some v) None)) ≡ show (get m q)) [
        | true ↦ λ e.
            let is : q ≡ k = same_by_test exact_order q k e in
            ap (λ z. show (option_joined joined (get m z) (Some v))) is ∙ same ∙ sym (ap (λ z. show (get m z)) is)
        | false ↦ λ e. ap show (none_joined joined (get m q))
      ] refl)

  -- at another key nothing changes
  pub at_another : (q : S) → ¬ (q ≡ k) → get (map_joined joined m (insert empty k v)) q ≡ get m q
  at_another q apart =
      joined_entry q
      ∙ elim (eq_by_cmp key q k) as (λ t. eq_by_cmp key q k ≡ t → option_joined joined (get m q) (cond t (Some v) None) ≡ get m q) [
        | true ↦ λ e. absurd (apart (same_by_test exact_order q k e))
        | false ↦ λ e. none_joined joined (get m q)
      ] refl
