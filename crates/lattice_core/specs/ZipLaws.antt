-- Lists side by side, element by element.
use Rattle.std.specs.Prelude.{◌≡◌, ◌<◌, ◌+◌, ℕ, List, [], ◌∷◌, ◌++◌, take, Some, map, length, slice_get, All}
use Rattle.std.specs.List.{AllZip, AllByRecursion}
use Rattle.std.proofs.Common.{zero, suc, refl, sym, ap, ◌∙◌, subst, arith, get_or}
use Rattle.std.proofs.lemmas.List.{take_more}
use Rattle.std.proofs.lemmas.List.Elements.{All-from_recursion}

pub length-AllZip : {X Y : Type 0} (R : X → Y → Type 0) (xs : List X) (ys : List Y) → AllZip R xs ys
    → length ys ≡ length xs
length-AllZip R [] [] all = refl
length-AllZip R [] (y ∷ ys) all = absurd all
length-AllZip R (x ∷ xs) [] all = absurd all
length-AllZip R (x ∷ xs) (y ∷ ys) all = ap suc (length-AllZip R xs ys all.1)

-- what is beside an element
pub AllZip-at : {X Y : Type 0} (R : X → Y → Type 0) (xs : List X) (ys : List Y) → AllZip R xs ys → (place : ℕ) (x : X)
    → slice_get xs place ≡ Some x → (y : Y) × (slice_get ys place ≡ Some y) × R x y
AllZip-at R [] [] all place x here = cc
AllZip-at R [] (y ∷ ys) all place x here = absurd all
AllZip-at R (a ∷ xs) [] all place x here = absurd all
AllZip-at R (a ∷ xs) (b ∷ ys) all zero x here = let same : a ≡ x = cc in (b, refl, subst (λ z. R z b) same all.0)
AllZip-at R (a ∷ xs) (b ∷ ys) all (suc place) x here = AllZip-at R xs ys all.1 place x here

pub AllZip-beside : {X Y : Type 0} (R : X → Y → Type 0) (xs : List X) (ys : List Y) → AllZip R xs ys
    → (place : ℕ) (y : Y) → slice_get ys place ≡ Some y → (x : X) × (slice_get xs place ≡ Some x) × R x y
AllZip-beside R [] [] all place y here = cc
AllZip-beside R [] (b ∷ ys) all place y here = absurd all
AllZip-beside R (a ∷ xs) [] all place y here = absurd all
AllZip-beside R (a ∷ xs) (b ∷ ys) all zero y here = let same : b ≡ y = cc in (a, refl, subst (R a) same all.0)
AllZip-beside R (a ∷ xs) (b ∷ ys) all (suc place) y here = AllZip-beside R xs ys all.1 place y here

-- lists as long as each other, related place by place
pub AllZip-from_places : {X Y : Type 0} (R : X → Y → Type 0) (xs : List X) (ys : List Y) → length ys ≡ length xs
    → ((place : ℕ) (x : X) (y : Y) → slice_get xs place ≡ Some x → slice_get ys place ≡ Some y → R x y) → AllZip R xs ys
AllZip-from_places R [] [] same at = tt
AllZip-from_places R [] (y ∷ ys) same at = absurd (omega (arith, same))
AllZip-from_places R (x ∷ xs) [] same at = absurd (omega (arith, same))
AllZip-from_places R (x ∷ xs) (y ∷ ys) same at =
    (at 0 x y refl refl, AllZip-from_places R xs ys (omega (arith, same)) (λ place. at (suc place)))

-- three lists side by side
pub AllZip-chain : {X Y Z : Type 0} (R : X → Y → Type 0) (S : Y → Z → Type 0) (Q : X → Z → Type 0) (xs : List X)
    (ys : List Y) (zs : List Z)
    → ((x : X) (y : Y) (z : Z) → R x y → S y z → Q x z) → AllZip R xs ys → AllZip S ys zs → AllZip Q xs zs
AllZip-chain R S Q [] [] [] both r s = tt
AllZip-chain R S Q [] [] (z ∷ zs) both r s = absurd s
AllZip-chain R S Q [] (y ∷ ys) zs both r s = absurd r
AllZip-chain R S Q (x ∷ xs) [] zs both r s = absurd r
AllZip-chain R S Q (x ∷ xs) (y ∷ ys) [] both r s = absurd s
AllZip-chain R S Q (x ∷ xs) (y ∷ ys) (z ∷ zs) both r s = (both x y z r.0 s.0, AllZip-chain R S Q xs ys zs both r.1 s.1)

pub AllZip-map : {X Y Z : Type 0} (R : X → Z → Type 0) (f : Y → Z) (xs : List X) (ys : List Y)
    → AllZip (λ x y. R x (f y)) xs ys → AllZip R xs (map f ys)
AllZip-map R f [] [] all = tt
AllZip-map R f [] (y ∷ ys) all = absurd all
AllZip-map R f (x ∷ xs) [] all = absurd all
AllZip-map R f (x ∷ xs) (y ∷ ys) all = (all.0, AllZip-map R f xs ys all.1)

right_by_recursion : {X Y : Type 0} (R : X → Y → Type 0) (P : Y → Type 0) (xs : List X) (ys : List Y)
    → ((x : X) (y : Y) → R x y → P y) → AllZip R xs ys → AllByRecursion P ys
right_by_recursion R P [] [] gives all = tt
right_by_recursion R P [] (y ∷ ys) gives all = absurd all
right_by_recursion R P (x ∷ xs) [] gives all = absurd all
right_by_recursion R P (x ∷ xs) (y ∷ ys) gives all = (gives x y all.0, right_by_recursion R P xs ys gives all.1)

pub All-AllZip : {X Y : Type 0} (R : X → Y → Type 0) (P : Y → Type 0) (xs : List X) (ys : List Y)
    → ((x : X) (y : Y) → R x y → P y) → AllZip R xs ys → All P ys
All-AllZip R P xs ys gives all = All-from_recursion P ys (right_by_recursion R P xs ys gives all)

-- one pair more
AllZip-push : {X Y : Type 0} (R : X → Y → Type 0) (xs : List X) (ys : List Y) (x : X) (y : Y) → AllZip R xs ys → R x y
    → AllZip R (xs ++ x ∷ []) (ys ++ y ∷ [])
AllZip-push R [] [] x y all r = (r, tt)
AllZip-push R [] (b ∷ ys) x y all r = absurd all
AllZip-push R (a ∷ xs) [] x y all r = absurd all
AllZip-push R (a ∷ xs) (b ∷ ys) x y all r = (all.0, AllZip-push R xs ys x y all.1 r)

pub AllZip-more : {X Y : Type 0} (R : X → Y → Type 0) (xs : List X) (ys : List Y) (i : ℕ) (d : X) (y : Y)
    → i < length xs → AllZip R (take i xs) ys → R (get_or xs i d) y → AllZip R (take (i + 1) xs) (ys ++ y ∷ [])
AllZip-more R xs ys i d y within so_far r = subst (λ l. AllZip R l (ys ++ y ∷ [])) (sym (take_more xs i d within))
    (AllZip-push R (take i xs) ys (get_or xs i d) y so_far r)

-- copies that look alike
pub map-copies : {S X : Type 0} (f : S → X) (xs ys : List S) → AllZip (λ x y. f y ≡ f x) xs ys → map f ys ≡ map f xs
map-copies f [] [] h = refl
map-copies f [] (y ∷ ys) h = absurd h
map-copies f (x ∷ xs) [] h = absurd h
map-copies f (x ∷ xs) (y ∷ ys) h = ap (λ z. z ∷ map f ys) h.0 ∙ ap (λ l. f x ∷ l) (map-copies f xs ys h.1)
