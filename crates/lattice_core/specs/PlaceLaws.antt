-- Members of lists and the places at which they are, and what a strict order says of both.
use Rattle.std.specs.Prelude.{◌≡◌, ◌≤◌, ◌<◌, ◌⊎◌, ℕ, List, [], ◌∷◌, Some, Contains, length, slice_get}
use Rattle.std.specs.declared.cmp.Ordering.{Ordering}
use Rattle.std.specs.declared.cmp.Ordering.TheVariants.{Less, Equal}
use Rattle.std.specs.Cmp.{IsTotalOrder, tied_itself}
use Rattle.std.specs.List.Sorted.{IsStrictlySortedBy}
use Rattle.std.proofs.Common.{zero, suc, refl, sym, ◌∙◌, subst, arith, inl, inr}
use native.Mathlib.Decide.{dec_lt}
use Rattle.std.proofs.lemmas.List.Elements.{All-from_recursion}
use Rattle.std.proofs.lemmas.Option.{slice_get_within, get_or_from_slice_get, slice_get_read}

-- ---- members and places
pub Contains-at : {X : Type 0} (xs : List X) (place : ℕ) (x : X) → slice_get xs place ≡ Some x → Contains xs x
Contains-at xs place x e = (place, slice_get_within xs place x e, get_or_from_slice_get xs place x x e)

pub at_Contains : {X : Type 0} (xs : List X) (x : X) → Contains xs x → (place : ℕ) × (slice_get xs place ≡ Some x)
at_Contains xs x c = (c.0, slice_get_read xs (length xs) c.0 x refl c.1 (sym c.2))

-- one element is at a place
pub one_item : {X : Type 0} (xs : List X) (place : ℕ) (x y : X) → slice_get xs place ≡ Some x
    → slice_get xs place ≡ Some y → x ≡ y
one_item xs place x y p q = cc

-- an element is at each place below the length
pub at_below : {X : Type 0} (xs : List X) (place : ℕ) → place < length xs → (x : X) × (slice_get xs place ≡ Some x)
at_below [] place less = absurd (omega (arith, less))
at_below (x ∷ xs) zero less = (x, refl)
at_below (x ∷ xs) (suc place) less = at_below xs place (omega (arith, less))

-- ---- lists in order
pub sorted_at : {X : Type 0} (cmp : X → X → Ordering) (xs : List X) → IsStrictlySortedBy cmp xs → (i j : ℕ) (x y : X)
    → i < j → slice_get xs i ≡ Some x → slice_get xs j ≡ Some y → cmp x y ≡ Less
unfolding IsStrictlySortedBy
sorted_at cmp [] sorted i j x y less at_i at_j = cc
sorted_at cmp (k ∷ ks) sorted zero zero x y less at_i at_j = absurd (omega (arith, less))
sorted_at cmp (k ∷ ks) sorted zero (suc j) x y less at_i at_j =
    let first : k ≡ x = cc in
    let below = All-from_recursion (λ z. cmp k z ≡ Less) ks sorted.0 j y (slice_get_within ks j y at_j) in
    subst (λ z. cmp z y ≡ Less) first (subst (λ z. cmp k z ≡ Less) (get_or_from_slice_get ks j y y at_j) below)
sorted_at cmp (k ∷ ks) sorted (suc i) zero x y less at_i at_j = absurd (omega (arith, less))
sorted_at cmp (k ∷ ks) sorted (suc i) (suc j) x y less at_i at_j =
    sorted_at cmp ks sorted.1 i j x y (omega (arith, less)) at_i at_j

pub not_below_itself : {X : Type 0} {cmp : X → X → Ordering} → IsTotalOrder cmp → (x : X) → cmp x x ≡ Less → ⊥
not_below_itself {cmp = cmp} total x less = let e : Less ≡ Equal = sym less ∙ tied_itself total x in cc

same_unless : (i j : ℕ) → ¬ (i < j) → ¬ (j < i) → i ≡ j
same_unless i j p q = omega (arith, p, q)

-- in a list in order each element is at one place
pub one_place : {X : Type 0} {cmp : X → X → Ordering} → IsTotalOrder cmp → (xs : List X) → IsStrictlySortedBy cmp xs
    → (i j : ℕ) (x : X) → slice_get xs i ≡ Some x → slice_get xs j ≡ Some x → i ≡ j
one_place {cmp = cmp} total xs sorted i j x at_i at_j = same_unless i j
    (λ less. not_below_itself total x (sorted_at cmp xs sorted i j x x less at_i at_j))
    (λ less. not_below_itself total x (sorted_at cmp xs sorted j i x x less at_j at_i))

pub earlier_or_same : (i j : ℕ) → i ≤ j → (i < j) ⊎ (i ≡ j)
earlier_or_same i j h = elim
    (dec_lt i j) [ Prim.yes less ↦ inl less | Prim.no not_less ↦ inr (omega (arith, not_less, h)) ]
