-- The entries of finite maps, and what the maps have at their keys.
use Rattle.std.specs.Prelude.{◌≡◌, Option, Some, None, IsSome, Contains}
use Rattle.std.specs.declared.cmp.Ordering.{Ordering}
use Rattle.std.specs.FinMap.{FinMap, get, entries}
use Rattle.std.proofs.Common.{refl}
use Rattle.std.proofs.lemmas.List.Elements.{All-contains, All-from_recursion, recursion_from_All, Contains-get_or}
use Rattle.lattice_core.specs.Keep.{IsExactOrder}
use Rattle.lattice_core.specs.JoinMap.{AllByRecursion-entries}

pub some_of : {X : Type 0} (o : Option X) → IsSome o → (x : X) × (o ≡ Some x)
some_of None is = cc
some_of (Some x) is = (x, refl)

pub is_some_of : {X : Type 0} (o : Option X) (x : X) → o ≡ Some x → IsSome o
is_some_of None x e = cc
is_some_of (Some y) x e = refl

-- the entries are just what the map has at its keys
module _ {S X : Type 0} {order : S → S → Ordering} (exact_order : IsExactOrder order) (m : FinMap order X) (key : S)
    (value : X) where
  pub get-entry : Contains (entries m) (key, value) → get m key ≡ Some value
  get-entry c =
      All-contains (λ e. get m e.0 ≡ Some e.1) (entries m) (key, value)
      (All-from_recursion (λ e. get m e.0 ≡ Some e.1) (entries m) ((AllByRecursion-entries exact_order (λ q v. get m q ≡ Some v) m).0 (λ q v found. found))) c

  pub entry-get : get m key ≡ Some value → Contains (entries m) (key, value)
  entry-get found =
      (AllByRecursion-entries exact_order (λ q v. Contains (entries m) (q, v)) m).1
      (recursion_from_All (λ e. Contains (entries m) (e.0, e.1)) (entries m) (λ k d less. Contains-get_or (entries m) k d less)) key value found
