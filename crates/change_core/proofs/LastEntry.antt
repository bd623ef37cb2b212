-- The last entry of a map is that of the greatest key.
use Rattle.std.proofs.Common.{◌≡◌, ℕ, ◌≤◌, ◌<◌, true, T, List, [], ◌∷◌, ◌++◌, map, ◌∙◌, Some, is_some, refl, sym, ap}
use Rattle.std.proofs.Common.{subst, arith, None, suc, length, get_or, ◌-◌}
use Rattle.std.specs.Prelude.{slice_get}
use Rattle.std.proofs.lemmas.Option.{slice_get-get_or}
use Rattle.std.specs.declared.cmp.Ordering.{Ordering}
use Rattle.std.specs.declared.cmp.Ordering.TheVariants.{Less, Equal, Greater}
use Rattle.std.specs.Ordering.{nat_cmp, is_lt, MatchOrdering}
use Rattle.std.specs.List.{AllByRecursion}
use Rattle.std.specs.FinMap as finite
use Rattle.std.specs.FinMap.Entries.{below_all, is_sorted}
use Rattle.std.proofs.lemmas.Cmp.{ranked}
use Rattle.std.proofs.lemmas.List.{map-append}
use Rattle.review_ops.specs.Timestamp.{Timestamp}
use Rattle.change_core.specs.Slots.{Patch}
use Rattle.lattice_core.specs.Tests.{first_of_both, second_of_both}
use Rattle.lattice_core.specs.EntryLaws.{some_of}
use Rattle.lattice_core.specs.Keep.{numbers_exact}
use Rattle.lattice_core.specs.JoinMap.{AllByRecursion-entries}
use Rattle.change_core.specs.Change.{Change}
use Rattle.change_core.specs.Views.{IsGreatestKnown, IsKnownSet}

below_from_less : (a b : ℕ) (r : Ordering) → MatchOrdering r (a < b) (a ≡ b) (b < a) → T (is_lt r) → a ≤ b
below_from_less a b Less h t = omega arith
below_from_less a b Equal h t = absurd t
below_from_less a b Greater h t = absurd t

at_last : {X : Type 0} (P : X → Type 0) (xs : List X) (x : X) → AllByRecursion P (xs ++ x ∷ []) → P x
at_last P [] x all = all.0
at_last P (y ∷ xs) x all = at_last P xs x all.1

-- a list whose last element is known
pub before_last : {X : Type 0} (xs : List X) (x : X) → slice_get xs (length xs - 1) ≡ Some x
    → (others : List X) × (xs ≡ others ++ x ∷ [])
before_last [] x last = cc
before_last (y ∷ []) x last = let same : y ≡ x = cc in ([], ap (λ z. z ∷ []) same)
before_last (y ∷ z ∷ zs) x last =
    let e : length (y ∷ z ∷ zs) - 1 ≡ suc (length (z ∷ zs) - 1) = omega arith in
    let at : slice_get (z ∷ zs) (length (z ∷ zs) - 1) ≡ Some x = ap (slice_get (y ∷ z ∷ zs)) (sym e) ∙ last in
    let rest = before_last (z ∷ zs) x at in
    (y ∷ rest.0, ap (λ l. y ∷ l) rest.1)

-- and one without
pub no_last : {X : Type 0} (xs : List X) → slice_get xs (length xs - 1) ≡ None → xs ≡ []
no_last [] last = refl
no_last (y ∷ ys) last =
    let there = slice_get-get_or (y ∷ ys) (length (y ∷ ys) - 1) y (omega arith) in
    let none : Some (get_or (y ∷ ys) (length (y ∷ ys) - 1) y) ≡ None = sym there ∙ last in
    cc

module _ {X : Type 0} where
  below_last : (key : ℕ) (es : List (ℕ × X)) (e : ℕ × X) → T (below_all nat_cmp key (es ++ e ∷ []))
      → T (is_lt (nat_cmp key e.0))
  below_last key [] e h = first_of_both (is_lt (nat_cmp key e.0)) true h
  below_last key (x ∷ es) e h =
      below_last key es e (second_of_both (is_lt (nat_cmp key x.0)) (below_all nat_cmp key (es ++ e ∷ [])) h)

  all_up_to_last : (es : List (ℕ × X)) (e : ℕ × X) → T (is_sorted nat_cmp (es ++ e ∷ []))
      → AllByRecursion (λ x. x.0 ≤ e.0) (es ++ e ∷ [])
  all_up_to_last [] e h = (omega arith, tt)
  all_up_to_last (x ∷ es) e h =
      let first = below_last x.0 es e (first_of_both (below_all nat_cmp x.0 (es ++ e ∷ [])) (is_sorted nat_cmp (es ++ e ∷ [])) h) in
      (below_from_less x.0 e.0 (nat_cmp x.0 e.0) (ranked x.0 e.0 (nat_cmp x.0 e.0) refl) first, all_up_to_last es e (second_of_both (below_all nat_cmp x.0 (es ++ e ∷ [])) (is_sorted nat_cmp (es ++ e ∷ [])) h))

-- what a walk over the entries of a change shows of each, from the back
module _ {K : Type 0} (shown : ℕ × K → ℕ × (Timestamp × Patch)) (change view : Change) (same : view ≡ change)
    (es : List (ℕ × K)) (are : map shown es ≡ finite.entries view.sets) where
  -- the last entry's key is known, and greatest
  pub greatest_from_last : (others : List (ℕ × K)) (last : ℕ × K) → es ≡ others ++ last ∷ []
      → IsGreatestKnown change (shown last).0
  greatest_from_last others last split =
      let is : finite.entries view.sets ≡ map shown others ++ shown last ∷ [] = sym are ∙ ap (map shown) split ∙ map-append shown others (last ∷ []) in
      let found = (AllByRecursion-entries numbers_exact (λ set register. finite.get view.sets set ≡ Some register) view.sets).0 (λ set register at. at) in
      let here : finite.get view.sets (shown last).0 ≡ Some (shown last).1 = at_last (λ x. finite.get view.sets x.0 ≡ Some x.1) (map shown others) (shown last) (subst (AllByRecursion (λ x. finite.get view.sets x.0 ≡ Some x.1)) is found) in
      let sorted = subst (λ list. T (is_sorted nat_cmp list)) is (finite.entries_sorted view.sets) in
      let below = subst (AllByRecursion (λ x. x.0 ≤ (shown last).0)) (sym is) (all_up_to_last (map shown others) (shown last) sorted) in
      subst (λ c. IsGreatestKnown c (shown last).0) same (record {
        known = ap is_some here;
        greatest = λ set known. let register = some_of (finite.get view.sets set) known in
            (AllByRecursion-entries numbers_exact (λ key value. key ≤ (shown last).0) view.sets).1 below set register.0 register.1;
      })

  -- a map without an entry knows no patch set
  pub none_known : es ≡ [] → (set : ℕ) → ¬ (IsKnownSet change set)
  none_known none set known =
      let register = some_of (finite.get view.sets set) (subst (λ c. IsKnownSet c set) (sym same) known) in
      (AllByRecursion-entries numbers_exact (λ key value. ⊥) view.sets).1
      (subst (AllByRecursion (λ x. ⊥)) (ap (map shown) (sym none) ∙ are) tt) set register.0 register.1
