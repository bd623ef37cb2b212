-- What a state says of a change's number: whether some patch set of the change is known, and whether the change is
-- merged.
use Rattle.std.specs.Prelude.{◌≡◌, ℕ, Bool, true, false, Option, None, Some}
use Rattle.std.specs.FinMap as finite
use Rattle.change_core.specs.Change.{Change}
use Rattle.change_core.specs.Views.{IsKnownSet, status_of}
use Rattle.change_core.specs.declared.life.Status.{Status}
use Rattle.change_core.specs.declared.life.Status.TheVariants.{New, Abandoned, Merged}
use Rattle.state_core.specs.State.{State}

-- the change is merged, whether a patch set of it is known or not
pub record IsMerged (state : State) (number : ℕ) : Type 0 where
  pub change : Change
  pub stands : finite.get state number ≡ Some change
  pub merged : status_of change ≡ Merged

-- some patch set of the change is known
pub record IsKnown (state : State) (number : ℕ) : Type 0 where
  pub change : Change
  pub stands : finite.get state number ≡ Some change
  pub set : ℕ
  pub known : IsKnownSet change set

-- whether a status is final
abbrev pub is_final : Status → Bool
is_final New = false
is_final Abandoned = false
is_final Merged = true

-- the Boolean form of `IsMerged`
abbrev pub merged_in : Option Change → Bool
merged_in None = false
merged_in (Some change) = is_final (status_of change)
