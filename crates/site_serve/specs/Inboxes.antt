-- The input buffer of a session.
use Rattle.std.specs.Prelude.{ℕ, ◌+◌, ◌≤◌, List, drop, take}
use Rattle.line_reader.specs.Lines.{HasNoLf}

-- of the buffer's bytes the first `next` are handled, and the next `scanned` have no line end
pub record IsScanned (next scanned count : ℕ) (bytes : List ℕ) : Type 0 where
  pub within : next + scanned ≤ count
  pub plain : HasNoLf (take scanned (drop next bytes))
