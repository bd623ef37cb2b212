-- The items of a state, listed change by change, and which of a list is the last of a change.
use Rattle.std.specs.Prelude.{◌≡◌, ◌≤◌, ◌↔◌, ℕ, List, Contains, map, flat_map}
use Rattle.std.specs.List.Sorted.{IsStrictlyIncreasing}
use Rattle.std.specs.FinMap as finite
use Rattle.review_ops.specs.Timestamp.{Timestamp}
use Rattle.change_core.specs.Slots.{Patch}
use Rattle.change_core.specs.Change.{Change}
use Rattle.state_core.specs.declared.item.Item.{Item}
use Rattle.state_core.specs.State.{State}
use Rattle.graph_core.specs.ItemGraph.{IsAt}

abbrev pub item_of : ℕ → ℕ × (Timestamp × Patch) → Item
item_of number set = record { change = number; set = set.0 }

abbrev pub items_in : ℕ × Change → List Item
items_in change = map (item_of change.0) (finite.entries change.1.sets)

abbrev pub all_items : State → List Item
all_items state = flat_map items_in (finite.entries state)

-- at the place is an item of the change, and at none behind it
pub record IsLastOf (items : List Item) (number place : ℕ) : Type 0 where
  pub item : Item
  pub here : IsAt items place item
  pub of : item.change ≡ number
  pub last : (other_place : ℕ) (other : Item) → IsAt items other_place other → other.change ≡ number
      → other_place ≤ place

-- the list has just the places of the last items of the changes, in order, each once
pub record ArePlaces (items : List Item) (numbers places : List ℕ) : Type 0 where
  pub increasing : IsStrictlyIncreasing places
  pub each : (place : ℕ)
      → Contains places place ↔ ((number : ℕ) × Contains numbers number × IsLastOf items number place)
