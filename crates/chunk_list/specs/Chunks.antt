-- A list in chunks: what is where in it.
use Rattle.std.specs.Prelude.{◌≡◌, ◌<◌, ◌+◌, ◌-◌, ◌⊎◌, ℕ, Bool, false, List, length, take, slice_get, slice_index_or}
use Rattle.std.specs.Prelude.{Option, None, Some}
use Rattle.std.specs.List.{flat_map}

-- whether there is an item, and it passes the test
abbrev pub is_some_passing : {T : Type 0} → (T → Bool) → Option T → Bool
is_some_passing test None = false
is_some_passing test (Some item) = test item

-- whether the last item passes
abbrev pub last_passes : {T : Type 0} → (T → Bool) → List T → Bool
last_passes test items = is_some_passing test (slice_get items (length items - 1))

module _ {C T : Type 0} (items : C → List T) where
  -- where among all items the one at an index of a chunk is
  abbrev pub place_of : List C → ℕ → ℕ → ℕ
  place_of chunks chunk index = length (flat_map items (take chunk chunks)) + index

  -- the index is one of the chunk's, or both lie just past all of them
  abbrev pub IsInside : List C → ℕ → ℕ → Type 0
  IsInside chunks chunk index =
      ((chunk < length chunks) × ((d : C) → index < length (items (slice_index_or chunks chunk d))))
      ⊎ ((chunk ≡ length chunks) × (index ≡ 0))
