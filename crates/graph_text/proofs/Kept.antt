-- What is kept of numbers in order, one number after the other.
use Rattle.std.proofs.Common.{◌≡◌, ◌↔◌, ◌⊎◌, ◌<◌, ◌≤◌, ◌+◌, ℕ, cond, eqb, List, [], ◌∷◌, ◌++◌, take, length, get_or}
use Rattle.std.proofs.Common.{Contains, sym, ap, ◌∙◌, subst, arith, inl, inr}
use Rattle.std.specs.declared.cmp.Ordering.TheVariants.{Less, Equal, Greater}
use Rattle.std.specs.Ordering.{nat_cmp}
use Rattle.std.specs.List.Sorted.{IsStrictlyIncreasing, IsStrictlySortedBy}
use Rattle.std.proofs.lemmas.Bool.{lt-ltb}
use Rattle.std.proofs.lemmas.List.{take_all, take_more}
use Rattle.std.proofs.lemmas.List.Elements.{Contains-push, Contains-push_cases, Contains-append_left}
use Rattle.std.proofs.lemmas.Map.Keys.{sorted_from_strictly_increasing, IsStrictlyIncreasing-from_sorted}
use Rattle.lattice_core.specs.MemberLaws.{sorted_push}
use Rattle.lattice_core.specs.PlaceLaws.{earlier_or_same}
use Rattle.graph_text.specs.Places.{AreKept}

less_is : (m n : ℕ) → m < n → nat_cmp m n ≡ Less
less_is m n h = ap (λ b. cond b Less (cond (eqb m n) Equal Greater)) (lt-ltb m n h)

increasing_push : (xs : List ℕ) (n : ℕ) → IsStrictlyIncreasing xs → ((m : ℕ) → Contains xs m → m < n)
    → IsStrictlyIncreasing (xs ++ n ∷ [])
increasing_push xs n rising above =
    IsStrictlyIncreasing-from_sorted (xs ++ n ∷ [])
    (sorted_push nat_cmp xs n (sorted_from_strictly_increasing xs rising) (λ m c. less_is m n (above m c)))

-- which numbers there are now: those from before, and one more
abbrev pub Grows : (ℕ → Type 0) → (ℕ → Type 0) → ℕ → Type 0
Grows Q R n = (m : ℕ) → R m ↔ (Q m ⊎ (m ≡ n))

module _ (P : ℕ → Type 0) where
  module _ (Q R : ℕ → Type 0) (kept : List ℕ) (n : ℕ) (are : AreKept Q P kept) (grows : Grows Q R n) where
    pub kept_skips : ¬ P n → AreKept R P kept
    kept_skips not = record {
      increasing = are.increasing;
      each = λ m. (
        λ c. let has = (are.each m).0 c in ((grows m).1 (inl has.0), has.1),
        λ has. elim ((grows m).0 has.0) [
          | inl before ↦ (are.each m).1 (before, has.1)
          | inr same ↦ absurd (not (subst P same has.1))
        ],
      );
    }

    pub kept_takes : P n → ((m : ℕ) → Q m → m < n) → (pushed : List ℕ) → pushed ≡ kept ++ n ∷ [] → AreKept R P pushed
    kept_takes is above pushed pushed_is = subst (AreKept R P) (sym pushed_is) (record {
      increasing = increasing_push kept n are.increasing (λ m c. above m ((are.each m).0 c).0);
      each = λ m. (
        λ c. elim (Contains-push_cases kept n m c) [
          | inl before ↦ let has = (are.each m).0 before in ((grows m).1 (inl has.0), has.1)
          | inr same ↦ ((grows m).1 (inr (sym same)), subst P same is)
        ],
        λ has. elim ((grows m).0 has.0) [
          | inl before ↦ Contains-append_left kept (n ∷ []) m ((are.each m).1 (before, has.1))
          | inr same ↦ subst (Contains (kept ++ n ∷ [])) (sym same) (Contains-push kept n)
        ],
      );
    })

-- the numbers below one more
at_last : (m count : ℕ) → m < count + 1 → m ≤ count
at_last m count less = omega (arith, less)

pub below_grows : (count : ℕ) → Grows (λ m. m < count) (λ m. m < count + 1) count
below_grows count m = (
  λ less. earlier_or_same m count (at_last m count less),
  λ either. elim either [ inl before ↦ omega (arith, before) | inr same ↦ omega (arith, same) ],
)

-- the first of some numbers, and the next one
pub taken_grows : (xs : List ℕ) (i : ℕ) → i < length xs
    → Grows (Contains (take i xs)) (Contains (take (i + 1) xs)) (get_or xs i 0)
taken_grows xs i within m = (
  λ c. elim (Contains-push_cases (take i xs) (get_or xs i 0) m (subst (λ l. Contains l m) (take_more xs i 0 within) c)) [
    | inl before ↦ inl before
    | inr same ↦ inr (sym same)
  ],
  λ either. subst (λ l. Contains l m) (sym (take_more xs i 0 within)) (elim either [
    | inl before ↦ Contains-append_left (take i xs) (get_or xs i 0 ∷ []) m before
    | inr same ↦ subst (Contains (take i xs ++ get_or xs i 0 ∷ [])) (sym same)
        (Contains-push (take i xs) (get_or xs i 0))
  ]),
)

-- all of the numbers were gone over
pub kept_all : (P : ℕ → Type 0) (xs : List ℕ) (i : ℕ) (kept : List ℕ) → length xs ≤ i
    → AreKept (Contains (take i xs)) P kept → AreKept (Contains xs) P kept
kept_all P xs i kept past are = subst (λ l. AreKept (Contains l) P kept) (take_all i xs past) are
