-- The lines of a journal: one for each row, in the order of the rows. A line has the places of its row's operations in
-- their order.
use Rattle.std.specs.Prelude.{◌≡◌, ◌<◌, ℕ, true, List, map, filter, fold, length, slice_index_or}
use Rattle.std.specs.List.{All, Contains}
use Rattle.std.specs.List.Sorted.{IsStrictlySortedBy}
use Rattle.std.specs.FinMap.{empty}
use Rattle.review_ops.specs.Deed.{merged}
use Rattle.review_ops.specs.Operation.{Operation}
use Rattle.replica_core.specs.Journal.{has}
use Rattle.replica_core.specs.Clock.{is_of}
use Rattle.replica_core.specs.Front.{row_order, holds, Reaches, raised, IsGapless}
use Rattle.replica_core.specs.InOrder.{IsInOrder}
use Rattle.replica_core.specs.Missing.{row_by_row}
use Rattle.replica_core.specs.RowLine.{RowLine}

-- an arbitrary operation, for positions without an arrival
abbrev nothing : Operation
nothing = record { stamp = record { time = 0; site = 0; start = 0; seq = 0 }; deed = merged 0 }

-- the operation that came at a place, and those that came at the places
abbrev pub op_at : List Operation → ℕ → Operation
op_at journal place = slice_index_or journal place nothing

abbrev pub ops_at : List Operation → List ℕ → List Operation
ops_at journal places = map (op_at journal) places

abbrev pub ops_of : List Operation → RowLine → List Operation
ops_of journal line = ops_at journal line.places

-- the places are those of just the row's operations, in their order
pub record IsFiled (journal : List Operation) (line : RowLine) : Type 0 where
  pub inside : All (λ place. place < length journal) line.places
  pub ordered : IsInOrder row_by_row (filter (is_of line.site line.start) journal) (ops_of journal line)

-- the line is that of its row: it has the row's places, and its reach
pub record IsLine (journal : List Operation) (line : RowLine) : Type 0 where
  pub filed : IsFiled journal line
  pub reach : IsGapless (holds journal line.site line.start) line.reach

abbrev pub row_of : RowLine → ℕ × ℕ
row_of line = (line.site, line.start)

abbrev pub rows_of : List RowLine → List (ℕ × ℕ)
rows_of lines = map row_of lines

-- the lines are those of the journal: each row that an operation is of has one
pub record AreLines (journal : List Operation) (lines : List RowLine) : Type 0 where
  pub sorted : IsStrictlySortedBy row_order (rows_of lines)
  pub each : All (IsLine journal) lines
  pub whole : (op : Operation) → has journal op ≡ true → Contains (rows_of lines) (op.stamp.site, op.stamp.start)

-- the front that has the reach of each line
abbrev pub raised_by : Reaches → RowLine → Reaches
raised_by front line = raised front line.site line.start line.reach

abbrev pub front_of : List RowLine → Reaches
front_of lines = fold raised_by empty lines
