-- Where a search in a list that is in order ends, and what an insertion there leaves.
use Rattle.std.proofs.Common.{◌≡◌, ◌<◌, zero, suc, Bool, true, false, cond, List, [], ◌∷◌, length, get_or, refl, ◌∙◌}
use Rattle.std.proofs.Common.{arith}
use Rattle.std.specs.declared.cmp.Ordering.{Ordering}
use Rattle.std.specs.declared.cmp.Ordering.TheVariants.{Less, Equal, Greater}
use Rattle.std.specs.Ordering.{is_lt, ordering_reverse}
use Rattle.std.specs.List.{AllByRecursion, insert}
use Rattle.std.specs.List.Sorted.{IsStrictlySortedBy, IsPartitionedBy}
use Rattle.std.proofs.lemmas.List.Elements.{All-from_recursion}
use Rattle.lattice_core.specs.Keep.{IsExactOrder}
use Rattle.chunk_list.specs.Ranks.{rank}

module _ {T : Type 0} (test : T → Bool) where
  -- a list in order parts at a test that no element passes after one that fails
  module _ (order : T → T → Ordering) (In : T → Type 0)
      (falls : (x y : T) → In x → In y → order x y ≡ Less → test y ≡ true → test x ≡ true) where
    pub parts : (xs : List T) → IsStrictlySortedBy order xs → AllByRecursion In xs → IsPartitionedBy test xs
    unfolding IsStrictlySortedBy
    parts [] sorted all i j d low inside passes = absurd (omega (arith, inside))
    parts (x ∷ xs) sorted all zero zero d low inside passes = passes
    parts (x ∷ xs) sorted all zero (suc j) d low inside passes =
        let there : j < length xs = omega (arith, inside) in
        falls x (get_or xs j d) all.0 (All-from_recursion In xs all.1 j d there)
        (All-from_recursion (λ y. order x y ≡ Less) xs sorted.0 j d there) passes
    parts (x ∷ xs) sorted all (suc i) zero d low inside passes = absurd (omega (arith, low))
    parts (x ∷ xs) sorted all (suc i) (suc j) d low inside passes =
        parts xs sorted.1 all.1 i j d (omega (arith, low)) (omega (arith, inside)) passes

-- ---- insertion
all_inserted : {T : Type 0} (P : T → Type 0) (test : T → Bool) (y : T) (xs : List T) → P y → AllByRecursion P xs
    → AllByRecursion P (insert xs (rank test xs) y)
all_inserted P test y [] new all = (new, tt)
all_inserted P test y (x ∷ xs) new all =
    elim (test x) as (λ t. AllByRecursion P (insert (x ∷ xs) (cond t (suc (rank test xs)) 0) y)) [
      | true ↦ (all.0, all_inserted P test y xs new all.1)
      | false ↦ (new, all)
    ]

pub less_than : (o : Ordering) → is_lt o ≡ true → o ≡ Less
less_than Less e = refl
less_than Equal e = cc
less_than Greater e = cc

greater_than : (o : Ordering) → is_lt o ≡ false → ¬ (o ≡ Equal) → ordering_reverse o ≡ Less
greater_than Less e other = cc
greater_than Equal e other = absurd (other refl)
greater_than Greater e other = refl

module _ {T : Type 0} {order : T → T → Ordering} (exact_order : IsExactOrder order) (y : T) where
  abbrev below : T → Bool
  below x = is_lt (order x y)

  above_all : (x : T) (xs : List T) → order y x ≡ Less → AllByRecursion (λ z. order x z ≡ Less) xs
      → AllByRecursion (λ z. order y z ≡ Less) xs
  above_all x [] first all = tt
  above_all x (z ∷ xs) first all = (exact_order.total.trans y x z first all.0, above_all x xs first all.1)

  -- what is nowhere yet is put between those below it and those above
  pub sorted_inserted : (xs : List T) → IsStrictlySortedBy order xs → AllByRecursion (λ x. ¬ (order x y ≡ Equal)) xs
      → IsStrictlySortedBy order (insert xs (rank below xs) y)
  unfolding IsStrictlySortedBy
  sorted_inserted [] sorted other = (tt, tt)
  sorted_inserted (x ∷ xs) sorted other = elim (below x) as (λ t. below x ≡ t → IsStrictlySortedBy order (insert (x ∷ xs) (cond t (suc (rank below xs)) 0) y)) [
    | true ↦ λ e. (all_inserted (λ z. order x z ≡ Less) below y xs (less_than (order x y) e) sorted.0, sorted_inserted xs sorted.1 other.1)
    | false ↦ λ e.
        let first : order y x ≡ Less = exact_order.total.antisymm y x ∙ greater_than (order x y) e other.0 in
        ((first, above_all x xs first sorted.0), sorted)
  ] refl
