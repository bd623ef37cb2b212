-- The invariants of a replica and of a gathering.
use Rattle.std.specs.Prelude.{◌≡◌, ◌≤◌, ℕ, List, length, take}
use Rattle.review_ops.specs.Operation.{Operation}
use Rattle.replica_core.specs.Clock.{greatest, times}
use Rattle.replica_core.specs.Journal.{AreApart}
use Rattle.replica_core.specs.Lines.{AreLines}
use Rattle.replica_core.specs.RowLine.{RowLine}
use Rattle.state_core.specs.State.{State, state_of}

-- no operation is twice in the journal; the lines are those of the journal, and the latest time is its greatest time
pub record IsKept (journal : List Operation) (kept : List RowLine) (time : ℕ) : Type 0 where
  pub apart : AreApart journal
  pub lines : AreLines journal kept
  pub latest : time ≡ greatest (times journal)

-- the invariant of a replica: also, its state is that of its journal
pub record IsRecord (journal : List Operation) (kept : List RowLine) (time : ℕ) (state : State) : Type 0 where
  pub joined : state ≡ state_of journal
  pub is_kept : IsKept journal kept time

-- the invariant of a gathering: its state is that of a prefix of its arrivals
pub record IsGathered (journal : List Operation) (kept : List RowLine) (time : ℕ) (state : State) (first : ℕ)
    : Type 0 where
  pub joined : state ≡ state_of (take first journal)
  pub within : first ≤ length journal
  pub is_kept : IsKept journal kept time
