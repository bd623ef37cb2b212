-- The nearest of names, as it is found one name after the other.
use Rattle.std.proofs.Common.{◌≡◌, ◌⊎◌, inl, inr, ◌<◌, ◌≤◌, ℕ, List, [], ◌∷◌, ◌++◌, Bool, true, false, sym, ap, refl, subst, arith}
use Rattle.std.proofs.Common.{None, Some, nat_le, nat_lt}
use Rattle.std.specs.Prelude.{if◌then◌else◌, MatchOption}
use Rattle.std.specs.List.{AllByRecursion}
use Rattle.std.proofs.lemmas.Bool.Decides.{nat_tests}
use Rattle.gate_check.specs.Nearest.{FindsNearest, IsNearestName, edits, if_near, most_edits, nearer, nearest_of}

-- a test of numbers, either way
abbrev Below : Bool → ℕ → ℕ → Type 0
Below true m n = m < n
Below false m n = n ≤ m

below : (m n : ℕ) → Below (nat_lt m n) m n
below m n = elim (nat_lt m n) as (λ b. nat_lt m n ≡ b → Below b m n) [
  | true ↦ λ e. grind (arith, nat_tests)
  | false ↦ λ e. grind (arith, nat_tests)
] refl

abbrev AtMost : Bool → ℕ → ℕ → Type 0
AtMost true m n = m ≤ n
AtMost false m n = n < m

at_most : (m n : ℕ) → AtMost (nat_le m n) m n
at_most m n = elim (nat_le m n) as (λ b. nat_le m n ≡ b → AtMost b m n) [
  | true ↦ λ e. grind (arith, nat_tests)
  | false ↦ λ e. grind (arith, nat_tests)
] refl

module _ (name : List ℕ) where
  abbrev IsFurther : List ℕ → List ℕ → Type 0
  IsFurther found other = edits name found < edits name other

  abbrev IsAsNear : List ℕ → List ℕ → Type 0
  IsAsNear found other = edits name found ≤ edits name other

  -- one of the others, nearer than the best and than each before it, and as near as each after it
  record IsBetter (best : List ℕ) (others : List (List ℕ)) (found : List ℕ) : Type 0 where
    before : List (List ℕ)
    after : List (List ℕ)
    split : others ≡ before ++ found ∷ after
    nearer_yet : IsFurther found best
    further : AllByRecursion (IsFurther found) before
    as_near : AllByRecursion (IsAsNear found) after

  abbrev Ends : List ℕ → List (List ℕ) → List ℕ → Type 0
  Ends best others found = ((found ≡ best) × AllByRecursion (IsAsNear best) others) ⊎ IsBetter best others found

  step_nearer : (best other : List ℕ) (others : List (List ℕ)) (found : List ℕ) → edits name other < edits name best
      → Ends other others found → Ends best (other ∷ others) found
  step_nearer best other others found less (inl (same, all)) = inr (record {
    before = [];
    after = others;
    split = ap (λ f. f ∷ others) (sym same);
    nearer_yet = subst (λ f. IsFurther f best) (sym same) less;
    further = tt;
    as_near = subst (λ f. AllByRecursion (IsAsNear f) others) (sym same) all;
  })
  step_nearer best other others found less (inr h) = inr (record {
    before = other ∷ h.before;
    after = h.after;
    split = ap (λ l. other ∷ l) h.split;
    nearer_yet = omega (arith, h.nearer_yet);
    further = (h.nearer_yet, h.further);
    as_near = h.as_near;
  })

  step_same : (best other : List ℕ) (others : List (List ℕ)) (found : List ℕ) → edits name best ≤ edits name other
      → Ends best others found → Ends best (other ∷ others) found
  step_same best other others found more (inl (same, all)) = inl (same, (more, all))
  step_same best other others found more (inr h) = inr (record {
    before = other ∷ h.before;
    after = h.after;
    split = ap (λ l. other ∷ l) h.split;
    nearer_yet = h.nearer_yet;
    further = (omega (arith, h.nearer_yet), h.further);
    as_near = h.as_near;
  })

  ends : (best : List ℕ) (others : List (List ℕ)) (found : List ℕ) → nearest_of name (Some best) others ≡ Some found
      → Ends best others found
  ends best [] found is = let same : best ≡ found = cc in inl (sym same, tt)
  ends best (other ∷ others) found is =
      elim (nat_lt (edits name other) (edits name best)) as (λ b. Below b (edits name other) (edits name best) → nearest_of name (Some (if b then other else best)) others ≡ Some found → Ends best (other ∷ others) found) [
        | true ↦ λ less e. step_nearer best other others found less (ends other others found e)
        | false ↦ λ more e. step_same best other others found more (ends best others found e)
      ] (below (edits name other) (edits name best)) is

  -- what is found of names
  whole : (best : List ℕ) (others : List (List ℕ)) (found : List ℕ) → edits name found ≤ most_edits name
      → Ends best others found → IsNearestName name (best ∷ others) found
  whole best others found near (inl (same, all)) = record {
    before = [];
    after = others;
    split = ap (λ f. f ∷ others) (sym same);
    further = tt;
    as_near = subst (λ f. AllByRecursion (IsAsNear f) others) (sym same) all;
    near = near;
  }
  whole best others found near (inr h) = record {
    before = best ∷ h.before;
    after = h.after;
    split = ap (λ l. best ∷ l) h.split;
    further = (h.nearer_yet, h.further);
    as_near = h.as_near;
    near = near;
  }

  all_far : (P : List ℕ → Type 0) (others : List (List ℕ)) → ((other : List ℕ) → P other → most_edits name < edits name other)
      → AllByRecursion P others → AllByRecursion (λ other. most_edits name < edits name other) others
  all_far P [] far all = tt
  all_far P (other ∷ others) far all = (far other all.0, all_far P others far all.1)

  both_far : (before after : List (List ℕ)) (found : List ℕ) (others : List (List ℕ)) → others ≡ before ++ found ∷ after
      → AllByRecursion (λ other. most_edits name < edits name other) before → most_edits name < edits name found
      → AllByRecursion (λ other. most_edits name < edits name other) after
      → AllByRecursion (λ other. most_edits name < edits name other) others
  both_far [] after found others split first here last =
      subst (AllByRecursion (λ other. most_edits name < edits name other)) (sym split) (here, last)
  both_far (other ∷ before) after found others split first here last =
      subst (AllByRecursion (λ other. most_edits name < edits name other)) (sym split)
      (first.0, both_far before after found (before ++ found ∷ after) refl first.1 here last)

  none_near : (best : List ℕ) (others : List (List ℕ)) (found : List ℕ) → most_edits name < edits name found
      → Ends best others found → AllByRecursion (λ other. most_edits name < edits name other) (best ∷ others)
  none_near best others found far (inl (same, all)) =
      let here : most_edits name < edits name best = subst (λ f. most_edits name < edits name f) same far in
      (here, all_far (IsAsNear best) others (λ other near. omega arith) all)
  none_near best others found far (inr h) =
      (omega (arith, h.nearer_yet), both_far h.before h.after found others h.split (all_far (IsFurther found) h.before (λ other near. omega arith) h.further) far (all_far (IsAsNear found) h.after (λ other near. omega arith) h.as_near))

  -- something is found
  some_found : (best : List ℕ) (others : List (List ℕ)) → (found : List ℕ) × (nearest_of name (Some best) others ≡ Some found)
  some_found best [] = (best, refl)
  some_found best (other ∷ others) = some_found (nearer name (Some best) other) others

  judged : (best : List ℕ) (others : List (List ℕ)) (found : List ℕ) → Ends best others found
      → MatchOption (if_near name (Some found)) (AllByRecursion (λ other. most_edits name < edits name other) (best ∷ others)) (IsNearestName name (best ∷ others))
  judged best others found h =
      elim (nat_le (edits name found) (most_edits name)) as (λ b. AtMost b (edits name found) (most_edits name) → MatchOption (if b then Some found else None) (AllByRecursion (λ other. most_edits name < edits name other) (best ∷ others)) (IsNearestName name (best ∷ others))) [
        | true ↦ λ near. whole best others found near h
        | false ↦ λ far. none_near best others found far h
      ] (at_most (edits name found) (most_edits name))

pub finds_nearest : FindsNearest
finds_nearest name [] = tt
finds_nearest name (best ∷ others) =
    let found = some_found name best others in
    subst (λ o. MatchOption (if_near name o) (AllByRecursion (λ other. most_edits name < edits name other) (best ∷ others)) (IsNearestName name (best ∷ others)))
    (sym found.1) (judged name best others found.0 (ends name best others found.0 found.1))
