-- Members of lists that are made of others.
use Rattle.std.specs.Prelude.{◌≡◌, ◌⊎◌, Bool, true, false, cond, List, [], ◌∷◌, ◌++◌, map, flat_map, filter, Contains}
use Rattle.std.proofs.Common.{zero, suc, refl, sym, ap, ◌∙◌, subst, arith, inl, inr}
use Rattle.std.specs.declared.cmp.Ordering.{Ordering}
use Rattle.std.specs.declared.cmp.Ordering.TheVariants.{Less}
use Rattle.std.specs.List.Sorted.{IsStrictlySortedBy}
use Rattle.std.proofs.lemmas.List.Elements.{All-append, All-from_recursion, recursion_from_All, Contains-get_or}
use Rattle.std.proofs.lemmas.List.Elements.{Contains-append_left, Contains-append_right, Contains-append_cases}

pub Contains-cons_cases : {X : Type 0} (x : X) (xs : List X) (y : X) → Contains (x ∷ xs) y → (x ≡ y) ⊎ Contains xs y
Contains-cons_cases x xs y (zero, less, e) = inl e
Contains-cons_cases x xs y (suc k, less, e) = inr (k, omega (arith, less), e)

pub Contains-first : {X : Type 0} (x : X) (xs : List X) → Contains (x ∷ xs) x
Contains-first x xs = (0, omega arith, refl)

pub Contains-later : {X : Type 0} (x : X) (xs : List X) (y : X) → Contains xs y → Contains (x ∷ xs) y
Contains-later x xs y c = (suc c.0, omega (arith, c.1), c.2)

pub Contains-none : {X : Type 0} (x : X) → Contains [] x → ⊥
Contains-none x c = let less = c.1 in omega (arith, less)

pub Contains-of_map : {X Y : Type 0} (f : X → Y) (xs : List X) (y : Y) → Contains (map f xs) y
    → (x : X) × Contains xs x × (f x ≡ y)
Contains-of_map f [] y c = absurd (Contains-none y c)
Contains-of_map f (x ∷ xs) y c = elim (Contains-cons_cases (f x) (map f xs) y c) [
  | inl e ↦ (x, Contains-first x xs, e)
  | inr later ↦ let found = Contains-of_map f xs y later in (found.0, Contains-later x xs found.0 found.1, found.2)
]

pub Contains-to_map : {X Y : Type 0} (f : X → Y) (xs : List X) (x : X) → Contains xs x → Contains (map f xs) (f x)
Contains-to_map f [] x c = absurd (Contains-none x c)
Contains-to_map f (y ∷ ys) x c = elim (Contains-cons_cases y ys x c) [
  | inl e ↦ subst (λ z. Contains (f y ∷ map f ys) (f z)) e (Contains-first (f y) (map f ys))
  | inr later ↦ Contains-later (f y) (map f ys) (f x) (Contains-to_map f ys x later)
]

pub Contains-of_flat_map : {X Y : Type 0} (f : X → List Y) (xs : List X) (y : Y) → Contains (flat_map f xs) y
    → (x : X) × Contains xs x × Contains (f x) y
Contains-of_flat_map f [] y c = absurd (Contains-none y c)
Contains-of_flat_map f (x ∷ xs) y c = elim (Contains-append_cases (f x) (flat_map f xs) y c) [
  | inl here ↦ (x, Contains-first x xs, here)
  | inr later ↦ let found = Contains-of_flat_map f xs y later in (found.0, Contains-later x xs found.0 found.1, found.2)
]

pub Contains-to_flat_map : {X Y : Type 0} (f : X → List Y) (xs : List X) (x : X) (y : Y) → Contains xs x
    → Contains (f x) y → Contains (flat_map f xs) y
Contains-to_flat_map f [] x y c has = absurd (Contains-none x c)
Contains-to_flat_map f (z ∷ zs) x y c has = elim (Contains-cons_cases z zs x c) [
  | inl e ↦ Contains-append_left (f z) (flat_map f zs) y (subst (λ w. Contains (f w) y) (sym e) has)
  | inr later ↦ Contains-append_right (f z) (flat_map f zs) y (Contains-to_flat_map f zs x y later has)
]

kept_by : {X : Type 0} (b : Bool) (p : X → Bool) (y : X) (xs : List X) (x : X) → p y ≡ b
    → (Contains (filter p xs) x → Contains xs x × (p x ≡ true)) → Contains (cond b (y ∷ filter p xs) (filter p xs)) x
    → Contains (y ∷ xs) x × (p x ≡ true)
kept_by true p y xs x e rest c = elim (Contains-cons_cases y (filter p xs) x c) [
  | inl same ↦ (subst (Contains (y ∷ xs)) same (Contains-first y xs), subst (λ z. p z ≡ true) same e)
  | inr later ↦ let found = rest later in (Contains-later y xs x found.0, found.1)
]
kept_by false p y xs x e rest c = let found = rest c in (Contains-later y xs x found.0, found.1)

pub Contains-of_filter : {X : Type 0} (p : X → Bool) (xs : List X) (x : X) → Contains (filter p xs) x
    → Contains xs x × (p x ≡ true)
Contains-of_filter p [] x c = absurd (Contains-none x c)
Contains-of_filter p (y ∷ ys) x c = kept_by (p y) p y ys x refl (Contains-of_filter p ys x) c

keeps_by : {X : Type 0} (b : Bool) (p : X → Bool) (y : X) (xs : List X) (x : X) → p y ≡ b → p x ≡ true
    → (Contains xs x → Contains (filter p xs) x) → Contains (y ∷ xs) x
    → Contains (cond b (y ∷ filter p xs) (filter p xs)) x
keeps_by true p y xs x e passed rest c = elim (Contains-cons_cases y xs x c) [
  | inl same ↦ subst (Contains (y ∷ filter p xs)) same (Contains-first y (filter p xs))
  | inr later ↦ Contains-later y (filter p xs) x (rest later)
]
keeps_by false p y xs x e passed rest c = elim (Contains-cons_cases y xs x c) [
  | inl same ↦ let failed : false ≡ true = sym e ∙ ap p same ∙ passed in cc
  | inr later ↦ rest later
]

pub Contains-to_filter : {X : Type 0} (p : X → Bool) (xs : List X) (x : X) → Contains xs x → p x ≡ true
    → Contains (filter p xs) x
Contains-to_filter p [] x c passed = absurd (Contains-none x c)
Contains-to_filter p (y ∷ ys) x c passed =
    keeps_by (p y) p y ys x refl passed (λ later. Contains-to_filter p ys x later passed) c

-- lists in order, the members of the one before those of the other
pub sorted_append : {X : Type 0} (cmp : X → X → Ordering) (xs ys : List X) → IsStrictlySortedBy cmp xs
    → IsStrictlySortedBy cmp ys → ((x y : X) → Contains xs x → Contains ys y → cmp x y ≡ Less)
    → IsStrictlySortedBy cmp (xs ++ ys)
unfolding IsStrictlySortedBy
sorted_append cmp [] ys sorted_xs sorted_ys across = sorted_ys
sorted_append cmp (x ∷ xs) ys sorted_xs sorted_ys across = (
  recursion_from_All (λ y. cmp x y ≡ Less) (xs ++ ys) (All-append (λ y. cmp x y ≡ Less) xs ys
      (All-from_recursion (λ y. cmp x y ≡ Less) xs sorted_xs.0)
      (λ k d h. across x _ (Contains-first x xs) (Contains-get_or ys k d h))),
  sorted_append cmp xs ys sorted_xs.1 sorted_ys (λ z y in_xs in_ys. across z y (Contains-later x xs z in_xs) in_ys),
)

alone : {X : Type 0} (cmp : X → X → Ordering) (y : X) → IsStrictlySortedBy cmp (y ∷ [])
unfolding IsStrictlySortedBy
alone cmp y = (tt, tt)

-- an element behind all of a list in order
pub sorted_push : {X : Type 0} (cmp : X → X → Ordering) (xs : List X) (y : X) → IsStrictlySortedBy cmp xs
    → ((x : X) → Contains xs x → cmp x y ≡ Less) → IsStrictlySortedBy cmp (xs ++ y ∷ [])
sorted_push cmp xs y sorted before =
    sorted_append cmp xs (y ∷ []) sorted (alone cmp y) (λ x z in_xs is_y. elim (Contains-cons_cases y [] z is_y) [
      | inl same ↦ subst (λ w. cmp x w ≡ Less) same (before x in_xs)
      | inr none ↦ absurd (Contains-none z none)
    ])
