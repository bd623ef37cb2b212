-- Numbers of a list, in order and each once.
use Rattle.std.proofs.Common.{◌↔◌, ℕ, List, [], Contains, eqb, sym, subst}
use Rattle.std.specs.Ordering.{nat_cmp}
use Rattle.std.specs.List.Retain.{IsFiltered, DiffersFromLast}
use Rattle.std.specs.List.Sorted.{IsPermutation, IsSorted, IsStrictlyIncreasing}
use Rattle.std.proofs.lemmas.List.Filters.{dedup_is}
use Rattle.std.proofs.lemmas.List.Kept.{Contains-dedup_nat, Contains-from_dedup}
use Rattle.std.proofs.lemmas.List.Sorted.{Contains-permutation, IsPermutation-sym}
use Rattle.std.proofs.lemmas.Map.Keys.{IsStrictlyIncreasing-dedup}

-- the numbers of the one list are those of the other, in order, each once
pub record AreOnceEach (numbers once : List ℕ) : Type 0 where
  pub increasing : IsStrictlyIncreasing once
  pub each : (number : ℕ) → Contains once number ↔ Contains numbers number

-- a sorted permutation of a list, without the elements that equal the one before them, has each number of the list once
pub once_each : (numbers sorted once : List ℕ) → IsPermutation numbers sorted → IsSorted nat_cmp sorted
    → IsFiltered (DiffersFromLast eqb) [] sorted once → AreOnceEach numbers once
once_each numbers sorted once moved in_order filtered =
    let is = dedup_is eqb sorted once filtered in
    record {
      increasing = subst IsStrictlyIncreasing (sym is) (IsStrictlyIncreasing-dedup sorted in_order);
      each = λ n. (
        λ c. Contains-permutation sorted numbers n (IsPermutation-sym numbers sorted moved) (Contains-from_dedup eqb sorted n (subst (λ l. Contains l n) is c)),
        λ c. subst (λ l. Contains l n) (sym is)
            (Contains-dedup_nat sorted n (Contains-permutation numbers sorted n moved c)),
      );
    }
