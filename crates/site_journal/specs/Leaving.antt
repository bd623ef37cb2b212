-- What a recovery leaves out of a record. It is the project's own.
use Rattle.std.specs.Prelude.{◌==◌, ◌&&◌, ◌||◌, ℕ, Bool, false, List, Option, None, Some, filter, nat_lt, not}
use Rattle.std.specs.List.{list_any}
use Rattle.review_ops.specs.Operation.{Operation}
use Rattle.review_ops.specs.Timestamp.{Timestamp}
use Rattle.site_journal.specs.declared.leaving.LeftOut.{LeftOut}

-- whether the stamp is of one of these sites under its start
abbrev pub is_of_row : List (ℕ × ℕ) → Timestamp → Bool
is_of_row rows stamp = list_any (λ row. row.0 == stamp.site && row.1 == stamp.start) rows

-- whether the time is above the last one
abbrev pub is_after : Option ℕ → ℕ → Bool
is_after None time = false
is_after (Some until) time = nat_lt until time

-- whether the operation is left out, for its site and its start, or for its time
abbrev pub is_left_out : LeftOut → Operation → Bool
is_left_out left_out op = is_of_row left_out.rows.items op.stamp || is_after left_out.until op.stamp.time

-- the others
abbrev pub kept_of : LeftOut → List Operation → List Operation
kept_of left_out ops = filter (λ op. not (is_left_out left_out op)) ops
