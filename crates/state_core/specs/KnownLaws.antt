-- The Boolean tests `merged_in` and `is_some` agree with `IsMerged` and `IsKnown`.
use Rattle.std.specs.Prelude.{◌≡◌, ◌↔◌, ℕ, true, Option, None, Some, is_some, IsTrue}
use Rattle.std.specs.FinMap as finite
use Rattle.std.proofs.Common.{refl, ap, ◌∙◌, subst}
use Rattle.std.proofs.lemmas.Bool.{false≢true}
use Rattle.change_core.specs.Change.{Change}
use Rattle.change_core.specs.Views.{IsCurrent, IsKnownSet, status_of}
use Rattle.change_core.specs.declared.life.Status.{Status}
use Rattle.change_core.specs.declared.life.Status.TheVariants.{New, Abandoned, Merged}
use Rattle.state_core.specs.State.{State}
use Rattle.state_core.specs.Known.{IsKnown, IsMerged, is_final, merged_in}

final_is : (status : Status) → is_final status ≡ true → status ≡ Merged
final_is New e = absurd (false≢true e)
final_is Abandoned e = absurd (false≢true e)
final_is Merged e = refl

merged_of : (state : State) (number : ℕ) (found : Option Change) → finite.get state number ≡ found
    → merged_in found ≡ true → IsMerged state number
merged_of state number None stands e = absurd (false≢true e)
merged_of state number (Some change) stands e =
    record { change = change; stands = stands; merged = final_is (status_of change) e }

-- `merged_in` is true exactly for merged changes
pub merged_test : (state : State) (number : ℕ) → (merged_in (finite.get state number) ≡ true) ↔ IsMerged state number
merged_test state number =
    (merged_of state number (finite.get state number) refl, λ is. ap merged_in is.stands ∙ ap is_final is.merged)

one_change : (state : State) (number : ℕ) (a b : Change) → finite.get state number ≡ Some a
    → finite.get state number ≡ Some b → a ≡ b
one_change state number a b p q = cc

-- a change is known exactly if it has a current patch set
pub known_by : (state : State) (number : ℕ) (change : Change) (current : Option ℕ)
    → finite.get state number ≡ Some change → IsCurrent change current → IsTrue (is_some current) ↔ IsKnown state number
known_by state number change None stands none = (
  λ e. absurd (false≢true e),
  λ known. absurd (none known.set (subst (λ c. IsKnownSet c known.set) (one_change state number known.change change known.stands stands) known.known)),
)
known_by state number change (Some current) stands is =
    (λ e. record { change = change; stands = stands; set = current; known = is.known }, λ known. refl)
