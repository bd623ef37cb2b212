-- Lines that are sealed at once: whole ones, as many as come, of 16,384 bytes at most, or one that has more.
use Rattle.std.specs.Prelude.{◌≡◌, ◌⊎◌, ◌<◌, ◌+◌, ℕ, List, ◌++◌, drop, length, take}
use Rattle.byte_ends.specs.Lines.{as_line}
use Rattle.line_reader.specs.Lines.{HasNoLf}

abbrev pub batch_bytes : ℕ
batch_bytes = 16384

-- an LF is at this place, either the last among so many bytes at the front, or the first of all
pub record EndsBatch (room : ℕ) (bytes : List ℕ) (at : ℕ) : Type 0 where
  pub within : at < length bytes
  pub whole : bytes ≡ as_line (take at bytes) ++ drop (at + 1) bytes
  pub few : (at < room) ⊎ HasNoLf (take at bytes)
  pub last : HasNoLf (drop (at + 1) (take room bytes))
