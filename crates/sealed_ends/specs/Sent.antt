-- How the bytes that a drain took are counted.
use Rattle.std.specs.Prelude.{◌≡◌, ℕ, ◌+◌, List, Option, length}
use Rattle.std.specs.Io.KnownBytes.{Appends}

-- the drain took these bytes, and the count rose by as many
pub record IsTakenWhole (old new : Option (List ℕ)) (count later : ℕ) (bytes : List ℕ) : Type 0 where
  pub took : Appends old new bytes
  pub counted : later ≡ count + length bytes
