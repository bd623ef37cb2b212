-- The operations of any journal, put in order.
use Rattle.std.proofs.Common.{◌≡◌, ◌∙◌, ◌<◌, ◌||◌, Bool, true, false, List, [], ◌∷◌, length, ap, refl, sym, arith}
use Rattle.std.specs.declared.cmp.Ordering.{Ordering}
use Rattle.std.specs.declared.cmp.Ordering.TheVariants.{Less, Equal, Greater}
use Rattle.std.specs.Ordering.{ordering_reverse}
use Rattle.std.specs.List.{AllByRecursion}
use Rattle.std.specs.List.Sorted.{IsStrictlySortedBy}
use Rattle.review_ops.specs.Operation.{Operation, operation_cmp}
use Rattle.review_ops.specs.Order.{operations_exact}
use Rattle.replica_core.specs.InOrder.{IsInOrderOf}
use Rattle.replica_core.specs.Journal.{same_operation, has}

-- the list with one more operation where its order has it
abbrev placed : Ordering → Operation → Operation → List Operation → List Operation → List Operation
placed Less x y ys later = x ∷ y ∷ ys
placed Equal x y ys later = y ∷ ys
placed Greater x y ys later = y ∷ later

abbrev inserted : Operation → List Operation → List Operation
inserted x [] = x ∷ []
inserted x (y ∷ ys) = placed (operation_cmp x y) x y ys (inserted x ys)

abbrev pub sorted_of : List Operation → List Operation
sorted_of [] = []
sorted_of (x ∷ xs) = inserted x (sorted_of xs)

swapped : (a b c : Bool) → (b || (a || c)) ≡ (a || (b || c))
swapped true true c = refl
swapped true false c = refl
swapped false b c = refl

also_there : (a c : Bool) → (a || c) ≡ (a || (a || c))
also_there true c = refl
also_there false c = refl

placed_has : (o : Ordering) (x y z : Operation) (ys later : List Operation) → operation_cmp x y ≡ o
    → has later z ≡ (same_operation x z || has ys z)
    → has (placed o x y ys later) z ≡ (same_operation x z || (same_operation y z || has ys z))
placed_has Less x y z ys later is h = refl
placed_has Equal x y z ys later is h =
    also_there (same_operation y z) (has ys z)
    ∙ ap (λ (o : Operation). same_operation o z || (same_operation y z || has ys z)) (sym (operations_exact.exact x y is))
placed_has Greater x y z ys later is h =
    ap (λ b. same_operation y z || b) h ∙ swapped (same_operation x z) (same_operation y z) (has ys z)

inserted_has : (x z : Operation) (ys : List Operation) → has (inserted x ys) z ≡ (same_operation x z || has ys z)
inserted_has x z [] = refl
inserted_has x z (y ∷ ys) = placed_has (operation_cmp x y) x y z ys (inserted x ys) refl (inserted_has x z ys)

sorted_has : (ops : List Operation) (z : Operation) → has (sorted_of ops) z ≡ has ops z
sorted_has [] z = refl
sorted_has (x ∷ xs) z = inserted_has x z (sorted_of xs) ∙ ap (λ b. same_operation x z || b) (sorted_has xs z)

all_above : (x y : Operation) (ys : List Operation) → operation_cmp x y ≡ Less
    → AllByRecursion (λ z. operation_cmp y z ≡ Less) ys → AllByRecursion (λ z. operation_cmp x z ≡ Less) ys
all_above x y [] less above = above
all_above x y (z ∷ zs) less above = (operations_exact.total.trans x y z less above.0, all_above x y zs less above.1)

placed_above : (o : Ordering) (w x y : Operation) (ys later : List Operation) → operation_cmp w x ≡ Less
    → operation_cmp w y ≡ Less → AllByRecursion (λ z. operation_cmp w z ≡ Less) ys
    → AllByRecursion (λ z. operation_cmp w z ≡ Less) later
    → AllByRecursion (λ z. operation_cmp w z ≡ Less) (placed o x y ys later)
placed_above Less w x y ys later wx wy above also = (wx, (wy, above))
placed_above Equal w x y ys later wx wy above also = (wy, above)
placed_above Greater w x y ys later wx wy above also = (wy, also)

inserted_above : (w x : Operation) (ys : List Operation) → operation_cmp w x ≡ Less
    → AllByRecursion (λ z. operation_cmp w z ≡ Less) ys → AllByRecursion (λ z. operation_cmp w z ≡ Less) (inserted x ys)
inserted_above w x [] less above = (less, above)
inserted_above w x (y ∷ ys) less above =
    placed_above (operation_cmp x y) w x y ys (inserted x ys) less above.0 above.1 (inserted_above w x ys less above.1)

placed_sorted : (o : Ordering) (x y : Operation) (ys later : List Operation) → operation_cmp x y ≡ o
    → AllByRecursion (λ z. operation_cmp y z ≡ Less) ys → IsStrictlySortedBy operation_cmp ys
    → (operation_cmp y x ≡ Less → AllByRecursion (λ z. operation_cmp y z ≡ Less) later)
    → IsStrictlySortedBy operation_cmp later → IsStrictlySortedBy operation_cmp (placed o x y ys later)
unfolding IsStrictlySortedBy
placed_sorted Less x y ys later is above sorted also later_sorted = ((is, all_above x y ys is above), (above, sorted))
placed_sorted Equal x y ys later is above sorted also later_sorted = (above, sorted)
placed_sorted Greater x y ys later is above sorted also later_sorted =
    (also (operations_exact.total.antisymm y x ∙ ap ordering_reverse is), later_sorted)

inserted_sorted : (x : Operation) (ys : List Operation) → IsStrictlySortedBy operation_cmp ys
    → IsStrictlySortedBy operation_cmp (inserted x ys)
unfolding IsStrictlySortedBy
inserted_sorted x [] sorted = (tt, tt)
inserted_sorted x (y ∷ ys) sorted =
    placed_sorted (operation_cmp x y) x y ys (inserted x ys) refl sorted.0 sorted.1 (λ less. inserted_above y x ys less sorted.0)
    (inserted_sorted x ys sorted.1)

sorted_sorted : (ops : List Operation) → IsStrictlySortedBy operation_cmp (sorted_of ops)
unfolding IsStrictlySortedBy
sorted_sorted [] = tt
sorted_sorted (x ∷ xs) = inserted_sorted x (sorted_of xs) (sorted_sorted xs)

pub sorted_of-in_order : (ops : List Operation) → IsInOrderOf ops (sorted_of ops)
sorted_of-in_order ops = record { sorted = sorted_sorted ops; members = sorted_has ops }

placed_some : (o : Ordering) (x y : Operation) (ys later : List Operation) → 0 < length (placed o x y ys later)
placed_some Less x y ys later = omega arith
placed_some Equal x y ys later = omega arith
placed_some Greater x y ys later = omega arith

inserted_some : (x : Operation) (ys : List Operation) → 0 < length (inserted x ys)
inserted_some x [] = omega arith
inserted_some x (y ∷ ys) = placed_some (operation_cmp x y) x y ys (inserted x ys)

pub sorted_of-some : (ops : List Operation) → 0 < length ops → 0 < length (sorted_of ops)
sorted_of-some [] some = omega (arith, some)
sorted_of-some (x ∷ xs) some = inserted_some x (sorted_of xs)
