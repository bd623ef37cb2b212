-- Bytes that a text hasn't got.
use Rattle.std.specs.Prelude.{◌≢◌, ◌<◌, ℕ, List, length, slice_index}

abbrev pub LacksByte : ℕ → List ℕ → Type 0
LacksByte byte bytes = (i : ℕ) → i < length bytes → slice_index bytes i ≢ byte
