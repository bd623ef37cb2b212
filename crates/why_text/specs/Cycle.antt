-- The other items of an item's cycle.
use Rattle.std.specs.Prelude.{◌≢◌, ◌↔◌, ◌<◌, ◌==◌, ◌&&◌, ℕ, Bool, List, Contains}
use Rattle.std.specs.List.Sorted.{IsStrictlySortedBy}
use Rattle.walk_core.specs.Walks.{IsReachedOver}
use Rattle.walk_core.specs.Digraphs.{IsMarked}
use Rattle.gate_rules.specs.Rules.{GateRules}
use Rattle.state_core.specs.State.{State}
use Rattle.state_core.specs.Items.{item_cmp}
use Rattle.state_core.specs.declared.item.Item.{Item}
use Rattle.graph_core.specs.Dependencies.{IsDependency}
use Rattle.graph_core.specs.ItemGraph.{IsAt}

-- the other item waits for this one, over others, and this one for it
pub record IsOnItsCycle (gate : GateRules) (state : State) (item other : Item) : Type 0 where
  pub differs : other ≢ item
  pub ahead : IsReachedOver (IsDependency gate state) item other
  pub behind : IsReachedOver (IsDependency gate state) other item

-- just the other items of its cycle, in order, each once
pub record AreOnItsCycle (gate : GateRules) (state : State) (item : Item) (others : List Item) : Type 0 where
  pub in_order : IsStrictlySortedBy item_cmp others
  pub each : (other : Item) → Contains others other ↔ IsOnItsCycle gate state item other

-- ---- what is found of it in lists side by side

abbrev pub is_item : Item → Item → Bool
is_item item other = (other.change == item.change) && (other.set == item.set)

-- a place is marked behind and ahead, and isn't marked as the item itself
pub record IsOtherPlace (itself behind ahead : List Bool) (place : ℕ) : Type 0 where
  pub not_itself : ¬ IsMarked itself place
  pub is_behind : IsMarked behind place
  pub is_ahead : IsMarked ahead place

-- the item is at such a place, one of the first
pub record IsTaken (items : List Item) (itself behind ahead : List Bool) (count : ℕ) (other : Item) : Type 0 where
  pub place : ℕ
  pub before : place < count
  pub here : IsAt items place other
  pub is_other : IsOtherPlace itself behind ahead place

pub record AreTaken (items : List Item) (itself behind ahead : List Bool) (count : ℕ) (others : List Item)
    : Type 0 where
  pub in_order : IsStrictlySortedBy item_cmp others
  pub each : (other : Item) → Contains others other ↔ IsTaken items itself behind ahead count other
