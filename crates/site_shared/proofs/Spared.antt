-- A spare replica takes in, one after the other, what it lacks.
use Rattle.std.proofs.Common.{◌≡◌, ℕ, zero, suc, Bool, true, false, ◌||◌, cond, List, [], ◌∷◌, ◌++◌, take, Some}
use Rattle.std.proofs.Common.{slice_get, refl, ap, sym, ◌∙◌, subst}
use Rattle.std.specs.List.{AllByRecursion}
use Rattle.std.proofs.lemmas.Map.Keys.{IsDistinct-head, IsDistinct-tail}
use Rattle.review_ops.specs.Operation.{Operation}
use Rattle.replica_core.specs.Journal.{same_operation, has, arrived, AreApart}

all_at : {A : Type 0} (P : A → Type 0) (xs : List A) (k : ℕ) (x : A) → AllByRecursion P xs → slice_get xs k ≡ Some x
    → P x
all_at P [] k x all at = absurd cc
all_at P (y ∷ xs) zero x all at = let e : y ≡ x = cc at in subst P e all.0
all_at P (y ∷ xs) (suc k) x all at = all_at P xs k x all.1 at

neither : (a b : Bool) → a ≡ false → b ≡ false → (a || b) ≡ false
neither true b e f = cc
neither false b e f = f

-- the operation at a place isn't among those before it
fresh : (xs : List Operation) (k : ℕ) (op : Operation) → AreApart xs → slice_get xs k ≡ Some op
    → has (take k xs) op ≡ false
fresh [] k op apart at = absurd cc
fresh (x ∷ xs) zero op apart at = refl
fresh (x ∷ xs) (suc k) op apart at =
    neither (same_operation x op) (has (take k xs) op)
    (all_at (λ y. same_operation x y ≡ false) xs k op (IsDistinct-head same_operation x xs apart) at)
    (fresh xs k op (IsDistinct-tail same_operation x xs apart) at)

pub take-push : {A : Type 0} (xs : List A) (k : ℕ) (x : A) → slice_get xs k ≡ Some x
    → take k xs ++ x ∷ [] ≡ take (suc k) xs
take-push [] k x at = absurd cc
take-push (y ∷ xs) zero x at = let e : y ≡ x = cc at in ap (λ z. z ∷ []) (sym e)
take-push (y ∷ xs) (suc k) x at = ap (λ zs. y ∷ zs) (take-push xs k x at)

pub take_arrived : (xs : List Operation) (k : ℕ) (op : Operation) → AreApart xs → slice_get xs k ≡ Some op
    → arrived (take k xs) op ≡ take (suc k) xs
take_arrived xs k op apart at =
    ap (λ b. cond b (take k xs) (take k xs ++ op ∷ [])) (fresh xs k op apart at) ∙ take-push xs k op at
