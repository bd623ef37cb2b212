-- What a replica keeps of a row of its journal.
use Rattle.std.specs.Prelude.{ℕ, List}

-- a site, a start of it, where the operations of the two are among the arrivals, and up to which number there is no gap
pub record RowLine : Type 0 where
  pub site : ℕ
  pub start : ℕ
  pub places : List ℕ
  pub reach : ℕ
