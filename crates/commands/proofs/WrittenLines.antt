-- Lines written one after another.
use Rattle.std.proofs.Common.{◌≡◌, ℕ, ◌+◌, ◌<◌, List, [], ◌∷◌, ◌++◌, length, take, get_or, flat_map, sym, ap, ◌∙◌}
use Rattle.std.proofs.Common.{append-nil}
use Rattle.std.proofs.lemmas.List.{take_more}
use Rattle.std.proofs.lemmas.List.Concat.{flat_map-append}

-- one line more
pub lines_more : {T : Type 0} (line : T → List ℕ) (xs : List T) (i : ℕ) → i < length xs → (d : T) (old new : List ℕ)
    → old ≡ flat_map line (take i xs) → new ≡ old ++ line (get_or xs i d) → new ≡ flat_map line (take (i + 1) xs)
lines_more line xs i inside d old new so_far more =
    more ∙ ap (λ t. t ++ line (get_or xs i d)) so_far
    ∙ ap (λ t. flat_map line (take i xs) ++ t) (sym (append-nil (line (get_or xs i d))))
    ∙ sym (flat_map-append line (take i xs) (get_or xs i d ∷ []))
    ∙ ap (flat_map line) (sym (take_more xs i d inside))
