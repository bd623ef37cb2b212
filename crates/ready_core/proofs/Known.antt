-- The first change of a list that isn't known.
use Rattle.std.proofs.Common.{◌≡◌, ◌<◌, ◌≤◌, ℕ, List, length, get_or, Contains, ◌∙◌, subst, arith, inl, inr}
use Rattle.std.specs.List.Sorted.{IsStrictlyIncreasing}
use Rattle.std.proofs.lemmas.List.{get_or_default}
use Rattle.std.proofs.lemmas.List.Elements.{Contains-get_or}
use Rattle.std.proofs.lemmas.List.Kept.{AllPairs-from_increasing}
use Rattle.state_core.specs.State.{State}
use Rattle.state_core.specs.Known.{IsKnown}
use Rattle.lattice_core.specs.PlaceLaws.{earlier_or_same}
use Rattle.ready_core.specs.Causes.{IsFirstUnknown}

-- the first in a rising list is the least
module _ (state : State) (numbers : List ℕ) where
  at_or_before : (i j : ℕ) → IsStrictlyIncreasing numbers → i ≤ j → j < length numbers
      → get_or numbers i 0 ≤ get_or numbers j 0
  at_or_before i j rising h within = elim (earlier_or_same i j h) [
    | inl earlier ↦ let less = AllPairs-from_increasing numbers rising i j 0 earlier within in omega (arith, less)
    | inr same ↦ subst (λ k. get_or numbers i 0 ≤ get_or numbers k 0) same (omega arith)
  ]

  later_unless : (i k : ℕ) → ¬ (k < i) → i ≤ k
  later_unless i k h = omega (arith, h)

  pub first_unknown_at : (i : ℕ) → IsStrictlyIncreasing numbers → i < length numbers
      → ((k : ℕ) → k < i → IsKnown state (get_or numbers k 0)) → ¬ IsKnown state (get_or numbers i 0)
      → IsFirstUnknown state numbers (get_or numbers i 0)
  first_unknown_at i rising within before here = record {
    has = Contains-get_or numbers i 0 within;
    unknown = here;
    least = λ other c none.
        let same : get_or numbers c.0 0 ≡ other = get_or_default numbers c.0 0 other c.1 ∙ c.2 in
        let behind = later_unless i c.0 (λ less. none (subst (IsKnown state) same (before c.0 less))) in
        subst (λ n. get_or numbers i 0 ≤ n) same (at_or_before i c.0 rising behind c.1);
  }

  pub all_known : (count : ℕ) → length numbers ≤ count → ((k : ℕ) → k < count → IsKnown state (get_or numbers k 0))
      → (number : ℕ) → Contains numbers number → IsKnown state number
  all_known count h each number c =
      subst (IsKnown state) (get_or_default numbers c.0 0 number c.1 ∙ c.2) (each c.0 (omega (arith, h, c.1)))
