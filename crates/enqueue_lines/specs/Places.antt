-- Where changes are to be merged, by the answer to a query of Gerrit ("query", --format=JSON): the last row of a change
-- counts.
use Rattle.std.specs.Prelude.{◌≡◌, ◌==◌, ◌-◌, ◌<◌, ℕ, List, [], ◌∷◌, Option, None, Some, option_map, if◌then◌else◌}
use Rattle.std.specs.Prelude.{All, Bool, true, false, slice_get, take}
use Rattle.std.specs.List.{AllZip}
use Rattle.std.specs.Option.{option_or}
use Rattle.std.specs.Ordering.{nat_cmp}
use Rattle.std.specs.BTreeMap.{BTreeMap, get}
use Rattle.gerrit_events.specs.Rows.{Place, SaysQueryLine, place_shown}
use Rattle.gerrit_events.specs.declared.row.ChangePlace.{ChangePlace}
use Rattle.gerrit_events.specs.declared.row.QueryLine.{QueryLine}
use Rattle.gerrit_events.specs.declared.row.QueryLine.TheVariants.{Row, Stats, Other}
use Rattle.enqueue_lines.specs.declared.fault.EnqueueFault.{EnqueueFault}
use Rattle.enqueue_lines.specs.declared.fault.EnqueueFault.TheVariants.{BadQuery, NoMemory}

-- the place of a change, where it is known
abbrev pub known_place : BTreeMap ℕ ChangePlace → ℕ → Option Place
known_place places change = option_map place_shown (get nat_cmp places change)

-- ---- what lines say

abbrev pub place_by : QueryLine → ℕ → Option Place
place_by (Row row) change = if row.change == change then Some (place_shown row) else None
place_by Stats change = None
place_by Other change = None

-- the last row of the change has its place
abbrev pub last_place : List QueryLine → ℕ → Option Place
last_place [] change = None
last_place (line ∷ lines) change = option_or (last_place lines change) (place_by line change)

abbrev pub IsReadable : QueryLine → Type 0
IsReadable line = ¬ (line ≡ Other)

-- each line is a row, or ends an answer, and the places are those of the rows
pub record ArePlacesOfRows (lines : List (List ℕ)) (places : BTreeMap ℕ ChangePlace) : Type 0 where
  pub rows : List QueryLine
  pub says_line : AllZip SaysQueryLine lines rows
  pub each : All IsReadable rows
  pub placed : (change : ℕ) → known_place places change ≡ last_place rows change

-- the line with this number, from 1, is the first that is neither a row nor the end of an answer; or memory was refused
abbrev pub IsRefusedQuery : List (List ℕ) → EnqueueFault → Type 0
IsRefusedQuery lines (BadQuery number) =
    (line : List ℕ) × (0 < number) × (slice_get lines (number - 1) ≡ Some line) × SaysQueryLine line Other
    × (rows : List QueryLine) × AllZip SaysQueryLine (take (number - 1) lines) rows × All IsReadable rows
IsRefusedQuery lines fault = fault ≡ NoMemory

-- the line says something, and its place is added; or it says nothing
abbrev pub AddsLine : List ℕ → BTreeMap ℕ ChangePlace → BTreeMap ℕ ChangePlace → Bool → Type 0
AddsLine line old new true = (row : QueryLine) × SaysQueryLine line row × IsReadable row
    × ((change : ℕ) → known_place new change ≡ option_or (place_by row change) (known_place old change))
AddsLine line old new false = SaysQueryLine line Other
