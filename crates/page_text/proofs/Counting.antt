-- Changes that are counted.
use Rattle.std.proofs.Common.{◌≡◌, ◌∙◌, ℕ, List, [], ◌∷◌, map, refl, ap, sym}
use Rattle.std.specs.Prelude.{count_by}
use Rattle.std.specs.FinMap as finite
use Rattle.change_core.specs.Change.{Change}
use Rattle.change_core.specs.declared.life.Status.{Status}
use Rattle.state_core.specs.State.{State}
use Rattle.page_text.specs.Statuses.{has_status, status_count}

same_pairs : (xs : List (ℕ × Change)) → map (λ pair. (pair.0, pair.1)) xs ≡ xs
same_pairs [] = refl
same_pairs (x ∷ xs) = ap (λ l. x ∷ l) (same_pairs xs)

pub counted_so : (status : Status) (xs : List (ℕ × Change)) (shown state : State)
    → map (λ pair. (pair.0, pair.1)) xs ≡ finite.entries shown → shown ≡ state
    → count_by (λ entry. has_status status entry.1) xs ≡ status_count state status
counted_so status xs shown state entries same =
    ap (count_by (λ entry. has_status status entry.1)) (sym (same_pairs xs) ∙ entries ∙ ap finite.entries same)
