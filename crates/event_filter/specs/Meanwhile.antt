-- What a record says while the bodies of a line are taken in, one after the other.
use Rattle.std.specs.Prelude.{◌≡◌, ◌⊎◌, ◌≤ℤ◌, ℕ, List, [], ◌∷◌}
use Rattle.review_ops.specs.Deed.{Deed}
use Rattle.change_core.specs.Slots.{Slot}
use Rattle.change_core.specs.Views.{status_of}
use Rattle.change_core.specs.declared.life.Status.TheVariants.{New}
use Rattle.state_core.specs.State.{State}
use Rattle.event_filter.specs.Recorded.{change_at, score_at}
use Rattle.event_filter.specs.Truth.{DeedPlace, place_written}

-- no score is above what it was, and no change is open that wasn't
pub record NothingIsRaised (old new : State) : Type 0 where
  pub scores : (change : ℕ) (slot : Slot) → score_at (change_at new change) slot ≤ℤ score_at (change_at old change) slot
  pub opened : (change : ℕ) → status_of (change_at new change) ≡ New → status_of (change_at old change) ≡ New

-- a score that is above what it was is what it becomes, and a change that is open was open or is to be
pub record NothingIsAboveBoth (old mid new : State) : Type 0 where
  pub scores : (change : ℕ) (slot : Slot)
      → (score_at (change_at mid change) slot ≤ℤ score_at (change_at old change) slot)
      ⊎ (score_at (change_at mid change) slot ≡ score_at (change_at new change) slot)
  pub opened : (change : ℕ) → status_of (change_at mid change) ≡ New
      → (status_of (change_at old change) ≡ New) ⊎ (status_of (change_at new change) ≡ New)

-- one of the deeds is written there
abbrev pub OneWrites : List Deed → DeedPlace → Type 0
OneWrites [] place = ⊥
OneWrites (deed ∷ deeds) place = (place_written deed ≡ place) ⊎ OneWrites deeds place

-- no two of the deeds are written in one place
abbrev pub EachElsewhere : List Deed → Type 0
EachElsewhere [] = Unit {0}
EachElsewhere (deed ∷ deeds) = (¬ OneWrites deeds (place_written deed)) × EachElsewhere deeds
