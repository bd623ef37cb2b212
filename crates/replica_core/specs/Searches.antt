-- Predicates for the binary searches in a line: true for its first operations, and false for the later ones.
use Rattle.std.specs.Prelude.{◌==◌, ◌&&◌, ◌||◌, ℕ, Bool, not, nat_lt, List, slice_get, filter, length}
use Rattle.std.specs.Ordering.{is_lt}
use Rattle.chunk_list.specs.Chunks.{is_some_passing}
use Rattle.review_ops.specs.Timestamp.{Timestamp}
use Rattle.review_ops.specs.Operation.{Operation}
use Rattle.replica_core.specs.Front.{row_order}
use Rattle.replica_core.specs.Lines.{ops_of, rows_of}
use Rattle.replica_core.specs.Missing.{row_by_row}
use Rattle.replica_core.specs.RowLine.{RowLine}
use Rattle.chunk_list.specs.Ranks.{rank}
use Rattle.std.specs.List.{insert}

-- whether another operation is below this one
abbrev pub is_below : Operation → Operation → Bool
is_below op other = is_lt (row_by_row other op)

-- whether another stamp's number and time are below this one's
abbrev pub is_earlier : Timestamp → Timestamp → Bool
is_earlier stamp other = nat_lt other.seq stamp.seq || (other.seq == stamp.seq && nat_lt other.time stamp.time)

-- whether an operation's number and time are below a stamp's
abbrev pub is_before : Timestamp → Operation → Bool
is_before stamp other = is_earlier stamp other.stamp

-- whether an operation's number is at most this one
abbrev pub is_within : ℕ → Operation → Bool
is_within seq other = not (nat_lt seq other.stamp.seq)

-- whether the operation that came at a place passes the test
abbrev pub passes_at : (Operation → Bool) → List Operation → ℕ → Bool
passes_at test journal place = is_some_passing test (slice_get journal place)

-- the operations with a number past this one
abbrev pub ops_past : ℕ → List Operation → List Operation
ops_past seq ops = filter (λ op. nat_lt seq op.stamp.seq) ops

-- whether another row comes before this one
abbrev pub is_earlier_row : ℕ × ℕ → ℕ × ℕ → Bool
is_earlier_row row other = is_lt (row_order other row)

-- where in lines the line of a row is, or would be
abbrev pub line_rank : List RowLine → ℕ × ℕ → ℕ
line_rank lines row = rank (is_earlier_row row) (rows_of lines)

-- the line with a place after all of the journal's, where this operation comes in order
abbrev pub with_place : List Operation → RowLine → Operation → RowLine
with_place journal line op =
    record {
      site = line.site;
      start = line.start;
      places = insert line.places (rank (is_below op) (ops_of journal line)) (length journal);
      reach = line.reach;
    }
