-- Lists in order, by their members.
use Rattle.std.specs.Prelude.{◌≡◌, ◌↔◌, ◌≤◌, ◌<◌, ◌⊎◌, ℕ, List, [], ◌∷◌, Contains, length, take}
use Rattle.std.specs.declared.cmp.Ordering.{Ordering}
use Rattle.std.specs.declared.cmp.Ordering.TheVariants.{Less}
use Rattle.std.specs.Cmp.{IsTotalOrder}
use Rattle.std.specs.List.{AllByRecursion}
use Rattle.std.specs.List.Sorted.{IsStrictlyIncreasing, IsStrictlySortedBy}
use Rattle.std.proofs.Common.{get_or, refl, sym, ◌∙◌, subst, arith, inl, inr}
use Rattle.std.proofs.lemmas.List.{get_or-take, get_or_default, length-take-le}
use Rattle.std.proofs.lemmas.List.Elements.{All-from_recursion, All-contains}
use Rattle.std.proofs.lemmas.List.Kept.{AllPairs-from_increasing}
use Rattle.lattice_core.specs.MemberLaws.{Contains-cons_cases, Contains-first, Contains-later, Contains-none}
use Rattle.lattice_core.specs.PlaceLaws.{not_below_itself}

module _ {X : Type 0} {cmp : X → X → Ordering} (total : IsTotalOrder cmp) where
  above : (x z : X) (xs : List X) → AllByRecursion (λ y. cmp x y ≡ Less) xs → Contains xs z → cmp x z ≡ Less
  above x z xs each c = All-contains (λ y. cmp x y ≡ Less) xs z (All-from_recursion (λ y. cmp x y ≡ Less) xs each) c

  -- what is above the first of some members is among the others
  later_also : (x z : X) (xs ys : List X) → AllByRecursion (λ y. cmp x y ≡ Less) xs → Contains xs z
      → Contains (x ∷ ys) z → Contains ys z
  later_also x z xs ys each c also = elim (Contains-cons_cases x ys z also) [
    | inl same ↦ absurd (not_below_itself total x (subst (λ w. cmp x w ≡ Less) (sym same) (above x z xs each c)))
    | inr later ↦ later
  ]

  heads : (x y : X) → (y ≡ x) ⊎ (cmp y x ≡ Less) → (x ≡ y) ⊎ (cmp x y ≡ Less) → x ≡ y
  heads x y (inl e) q = sym e
  heads x y (inr p) (inl e) = e
  heads x y (inr p) (inr q) = absurd (not_below_itself total x (total.trans x y x q p))

  first_or_above : (x y : X) (ys : List X) → AllByRecursion (λ z. cmp y z ≡ Less) ys → Contains (y ∷ ys) x
      → (y ≡ x) ⊎ (cmp y x ≡ Less)
  first_or_above x y ys each c = elim
      (Contains-cons_cases y ys x c) [ inl same ↦ inl same | inr later ↦ inr (above y x ys each later) ]

  -- one list in order has some members
  pub sorted_same : (xs ys : List X) → IsStrictlySortedBy cmp xs → IsStrictlySortedBy cmp ys
      → ((z : X) → Contains xs z ↔ Contains ys z) → xs ≡ ys
  unfolding IsStrictlySortedBy
  sorted_same [] [] p q same = refl
  sorted_same [] (y ∷ ys) p q same = absurd (Contains-none y ((same y).1 (Contains-first y ys)))
  sorted_same (x ∷ xs) [] p q same = absurd (Contains-none x ((same x).0 (Contains-first x xs)))
  sorted_same (x ∷ xs) (y ∷ ys) p q same =
      let first : x ≡ y = heads x y (first_or_above x y ys q.0 ((same x).0 (Contains-first x xs))) (first_or_above y x xs p.0 ((same y).1 (Contains-first y ys))) in
      let rest : xs ≡ ys = sorted_same xs ys p.1 q.1 (λ z. (
        λ c. later_also x z xs ys p.0 c
            (subst (λ w. Contains (w ∷ ys) z) (sym first) ((same z).0 (Contains-later x xs z c))),
        λ c. later_also y z ys xs q.0 c (subst (λ w. Contains (w ∷ xs) z) first ((same z).1 (Contains-later y ys z c))),
      )) in
      λ i. first i ∷ rest i

  -- a list in order that has no others is no longer, and has all of them if it is as long
  pub record IsPart (xs ys : List X) : Type 0 where
    pub shorter : length xs ≤ length ys
    pub whole : length ys ≤ length xs → (z : X) → Contains ys z → Contains xs z

  part_of : (x : X) (xs : List X) (y : X) (ys : List X) → IsStrictlySortedBy cmp (x ∷ xs)
      → IsStrictlySortedBy cmp (y ∷ ys) → ((z : X) → Contains (x ∷ xs) z → Contains (y ∷ ys) z)
      → (y ≡ x) ⊎ (cmp y x ≡ Less)
      → ((z : X) → Contains (x ∷ xs) z → Contains ys z) ⊎ ((y ≡ x) × ((z : X) → Contains xs z → Contains ys z))
  unfolding IsStrictlySortedBy
  part_of x xs y ys p q all (inl same) = inr (same, λ z c. later_also x z xs ys p.0 c (subst (λ w. Contains (w ∷ ys) z) same (all z (Contains-later x xs z c))))
  part_of x xs y ys p q all (inr below) = inl (λ z c. elim (Contains-cons_cases y ys z (all z c)) [
    | inr later ↦ later
    | inl same ↦ elim (first_or_above z x xs p.0 c) [
      | inl e ↦ absurd (not_below_itself total y (subst (λ w. cmp y w ≡ Less) (e ∙ sym same) below))
      | inr more ↦ absurd
          (not_below_itself total y (total.trans y x y below (subst (λ w. cmp x w ≡ Less) (sym same) more)))
    ]
  ])

  pub sorted_part : (xs ys : List X) → IsStrictlySortedBy cmp xs → IsStrictlySortedBy cmp ys
      → ((z : X) → Contains xs z → Contains ys z) → IsPart xs ys
  unfolding IsStrictlySortedBy
  sorted_part [] ys p q all = record {
    shorter = omega arith;
    whole = λ short z c. let within = c.1 in absurd (omega (arith, within, short));
  }
  sorted_part (x ∷ xs) [] p q all = absurd (Contains-none x (all x (Contains-first x xs)))
  sorted_part (x ∷ xs) (y ∷ ys) p q all =
      elim (part_of x xs y ys p q all (first_or_above x y ys q.0 (all x (Contains-first x xs)))) [
        | inl inside ↦
            let rest = sorted_part (x ∷ xs) ys p q.1 inside in
            record {
              shorter = let less = rest.shorter in omega (arith, less);
              whole = λ short z c. absurd (let less = rest.shorter in omega (arith, less, short));
            }
        | inr (same, inside) ↦
            let rest = sorted_part xs ys p.1 q.1 inside in
            record {
              shorter = let less = rest.shorter in omega (arith, less);
              whole = λ short z c. elim (Contains-cons_cases y ys z c) [
                | inl first ↦ subst (λ w. Contains (x ∷ xs) w) (sym same ∙ first) (Contains-first x xs)
                | inr later ↦ Contains-later x xs z (rest.whole (omega (arith, short)) z later)
              ];
            }
      ]

-- what comes before a place of a rising list is less than what is there
pub taken_below : (xs : List ℕ) (i : ℕ) → IsStrictlyIncreasing xs → i < length xs → (m : ℕ) → Contains (take i xs) m
    → m < get_or xs i 0
taken_below xs i rising within m c =
    let k_less : c.0 < i = omega (arith, c.1, length-take-le i xs (omega (arith, within))) in
    let here : get_or xs c.0 m ≡ m = sym (get_or-take i xs c.0 m k_less) ∙ c.2 in
    let same : get_or xs c.0 0 ≡ m = get_or_default xs c.0 0 m (omega (arith, k_less, within)) ∙ here in
    subst (λ l. l < get_or xs i 0) same (AllPairs-from_increasing xs rising c.0 i 0 k_less within)
