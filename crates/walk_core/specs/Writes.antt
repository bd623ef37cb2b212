-- What is read of a list after a write, and of a list of nothing.
use Rattle.std.proofs.Common.{◌≡◌, ◌≢◌, ℕ, zero, suc, ◌<◌, List, [], ◌∷◌, length, replicate, set, get_or}
use Rattle.std.proofs.Common.{Some, refl, ap, ◌∙◌, arith}
use Rattle.std.specs.List.{slice_get}
use Rattle.std.proofs.lemmas.List.{length-set, get_or-set_same}
use Rattle.std.proofs.lemmas.Option.{slice_get-get_or}

pub slice_get-set_other : {T : Type 0} (xs : List T) (i : ℕ) (y : T) (j : ℕ) → j ≢ i
    → slice_get (set xs i y) j ≡ slice_get xs j
slice_get-set_other [] i y j ne = refl
slice_get-set_other (x ∷ xs) zero y zero ne = absurd (ne refl)
slice_get-set_other (x ∷ xs) zero y (suc j) ne = refl
slice_get-set_other (x ∷ xs) (suc i) y zero ne = refl
slice_get-set_other (x ∷ xs) (suc i) y (suc j) ne = slice_get-set_other xs i y j (λ e. ne (ap suc e))

pub slice_get-set_same : {T : Type 0} (xs : List T) (i : ℕ) (y : T) → i < length xs → slice_get (set xs i y) i ≡ Some y
slice_get-set_same xs i y within =
    let longer : i < length (set xs i y) = omega (arith, length-set xs i y) in
    slice_get-get_or (set xs i y) i y longer ∙ ap Some (get_or-set_same xs i y y within)

-- a list of one value has it at each place, and past its end it is read too
pub same_read : {T : Type 0} (size x : ℕ) (value : T) → get_or (replicate size value) x value ≡ value
same_read zero x value = refl
same_read (suc size) zero value = refl
same_read (suc size) (suc x) value = same_read size x value
