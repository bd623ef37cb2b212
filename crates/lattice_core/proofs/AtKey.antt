-- What a change at one key does to a map.
use Rattle.std.specs.Prelude.{◌≡◌, List, None, Some, IsSome, Result}
use Rattle.std.specs.declared.cmp.Ordering.{Ordering}
use Rattle.std.specs.Result.{OnOk, OnErr}
use Rattle.std.specs.Map.{set_value}
use Rattle.std.specs.BTreeMap.{is_at}
use Rattle.std.specs.FinMap.{FinMap, get, insert}
use Rattle.std.proofs.Common.{refl, sym, ap, ◌∙◌, subst}
use Rattle.std.proofs.lemmas.Result.{on_ok_weaker, on_err_weaker}
use Rattle.lattice_core.specs.Keep.{IsExactOrder}
use Rattle.lattice_core.specs.Join.{IsJoin, IsBetween, IsBetween-low}
use Rattle.lattice_core.specs.JoinMap.{map_of, map_joined, put_joined, put_joined-Some, put_joined-None}
use Rattle.lattice_core.specs.JoinMap.{put_joined-between, maps_join, Covers-put_joined}
use Rattle.lattice_core.proofs.Pairs.{map_of-set_value, contains-map_of}

-- what was written through the borrow of a value
pub map_of-written : {K V S T : Type 0} {cmp : K → K → Ordering} {order : S → S → Ordering} (exact_order : IsExactOrder order) (key_shape : K → S) (value_shape : V → T) (compares : (a b : K) → cmp a b ≡ order (key_shape a) (key_shape b)) (k : K) (es new : List (K × V)) (w : V) → new ≡ set_value (is_at (cmp k)) es w → IsSome (get (map_of order key_shape value_shape es) (key_shape k)) → map_of order key_shape value_shape new ≡ insert (map_of order key_shape value_shape es) (key_shape k) (value_shape w)
map_of-written {order = order} exact_order key_shape value_shape compares k es new w written here =
    ap (map_of order key_shape value_shape) written
    ∙ map_of-set_value exact_order key_shape value_shape compares k w es
    (contains-map_of exact_order key_shape value_shape compares k es ∙ here)

module _ {S T : Type 0} {order : S → S → Ordering} (exact_order : IsExactOrder order) (m : FinMap order T) (k : S)
    (v : T) {X E : Type 0} (r : Result X E) where
  -- a value joined in place
  pub OnOk-joined : (joined : T → T → T) (old w : T) (n : FinMap order T) → get m k ≡ Some old
      → (IsSome (get m k) → n ≡ insert m k w) → OnOk r (w ≡ joined old v) → OnOk r (n ≡ put_joined joined m k v)
  OnOk-joined joined old w n here written = on_ok_weaker r (λ is_join. written (subst IsSome (sym here) refl) ∙ ap (insert m k) is_join ∙ sym (put_joined-Some exact_order joined m k old v here))

  -- a value joined in part
  pub OnErr-joined : {joined : T → T → T} → IsJoin joined → (old w : T) (n : FinMap order T) → get m k ≡ Some old
      → (IsSome (get m k) → n ≡ insert m k w) → OnErr r (IsBetween joined old w (joined old v))
      → OnErr r (IsBetween (map_joined joined) m n (put_joined joined m k v))
  OnErr-joined {joined = joined} laws old w n here written = on_err_weaker r (λ between.
      let at_new : FinMap order T → Type 0 = λ o. IsBetween (map_joined joined) m o (put_joined joined m k v) in
      subst at_new (sym (written (subst IsSome (sym here) refl)))
      (put_joined-between exact_order laws m k old w v here between))

  -- a value added at a key that wasn't there
  pub OnOk-added : (joined : T → T → T) (before n : FinMap order T) → get m k ≡ None → before ≡ m
      → OnOk r (n ≡ insert before k v) → OnOk r (n ≡ put_joined joined m k v)
  OnOk-added joined before n absent same = on_ok_weaker r
      (λ is_put. is_put ∙ ap (λ o. insert o k v) same ∙ sym (put_joined-None exact_order joined m k v absent))

  -- nothing changed
  pub OnErr-added : {joined : T → T → T} → IsJoin joined → {A : Type 0} (map_at : A → FinMap order T) (before new : A)
      → map_at before ≡ m → OnErr r (new ≡ before)
      → OnErr r (IsBetween (map_joined joined) m (map_at new) (put_joined joined m k v))
  OnErr-added {joined = joined} laws map_at before new same = on_err_weaker r (λ kept.
      let at_new : FinMap order T → Type 0 = λ o. IsBetween (map_joined joined) m o (put_joined joined m k v) in
      subst at_new (sym (ap map_at kept ∙ same))
      (IsBetween-low (maps_join exact_order laws) _ _ (Covers-put_joined exact_order laws m k v)))
