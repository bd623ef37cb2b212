-- The items of a state with what they wait for, as lists: at each place an item, the changes that it waits for, the
-- places of their current items, and whether it is on a cycle.
use Rattle.std.specs.Prelude.{◌≡◌, ◌↔◌, ℕ, Bool, List, [], ◌∷◌, Some, slice_get, Contains, IsTrue, if◌then◌else◌, ◌==◌}
use Rattle.std.specs.List.{list_any, AllZip}
use Rattle.std.specs.List.Sorted.{IsStrictlyIncreasing, IsStrictlySortedBy}
use Rattle.walk_core.specs.Walks.{IsOnCycle}
use Rattle.gate_rules.specs.Rules.{GateRules}
use Rattle.state_core.specs.Items.{IsItem}
use Rattle.state_core.specs.declared.item.Item.{Item}
use Rattle.state_core.specs.State.{State}
use Rattle.state_core.specs.Items.{item_cmp}
use Rattle.graph_core.specs.Dependencies.{IsTarget, IsDependency}

pub record ItemGraph : Type 0 where
  pub items : List Item
  pub targets : List (List ℕ)
  pub ends : List (List ℕ)
  pub on_cycle : List Bool

-- the item is at the place
abbrev pub IsAt : List Item → ℕ → Item → Type 0
IsAt items place item = slice_get items place ≡ Some item

-- the list has just the items of the state, in order, each once
pub record AreItems (state : State) (items : List Item) : Type 0 where
  pub in_order : IsStrictlySortedBy item_cmp items
  pub each : (item : Item) → Contains items item ↔ IsItem state item

-- the items are a part of those of the state, in order, each once, that holds what they wait for: the end of each edge
-- of one of them is among them. All items of the state are such a part
pub record ArePart (gate : GateRules) (state : State) (items : List Item) : Type 0 where
  pub in_order : IsStrictlySortedBy item_cmp items
  pub each : (item : Item) → Contains items item → IsItem state item
  pub held : (item other : Item) → Contains items item → IsDependency gate state item other → Contains items other

-- the list has just the changes that the item waits for, in order, each once
pub record AreTargets (gate : GateRules) (state : State) (item : Item) (targets : List ℕ) : Type 0 where
  pub increasing : IsStrictlyIncreasing targets
  pub each : (number : ℕ) → Contains targets number ↔ IsTarget gate state item number

-- at the place is the end of an edge of the item
pub record EndsAt (E : Item → Item → Type 0) (items : List Item) (item : Item) (place : ℕ) : Type 0 where
  pub other : Item
  pub there : IsAt items place other
  pub edge : E item other

-- the list has just the places of the ends of the item's edges, in order, each once
pub record AreEnds (E : Item → Item → Type 0) (items : List Item) (item : Item) (ends : List ℕ) : Type 0 where
  pub increasing : IsStrictlyIncreasing ends
  pub each : (place : ℕ) → Contains ends place ↔ EndsAt E items item place

-- the graph is that of a part of the state's items under the gate: beside each of them is what it waits for, where the
-- edges to that end, and whether it is on a cycle of edges. All of this is as in the whole state, since no edge leads
-- out of the part
pub record IsGraphOf (gate : GateRules) (state : State) (graph : ItemGraph) : Type 0 where
  pub items : ArePart gate state graph.items
  pub targets : AllZip (AreTargets gate state) graph.items graph.targets
  pub ends : AllZip (AreEnds (IsDependency gate state) graph.items) graph.items graph.ends
  pub on_cycle : AllZip (λ item flag. IsTrue flag ↔ IsOnCycle (IsDependency gate state) item) graph.items graph.on_cycle

abbrev pub has : List ℕ → ℕ → Bool
has targets number = list_any (λ target. target == number) targets

-- the items that wait for a change, in their order
abbrev pub namers_of : List Item → List (List ℕ) → ℕ → List Item
namers_of [] rows number = []
namers_of (item ∷ items) [] number = []
namers_of (item ∷ items) (targets ∷ rows) number =
    if has targets number then item ∷ namers_of items rows number else namers_of items rows number

-- the two are at the same index of two lists
pub record StandsAt {X : Type 0} (items : List Item) (others : List X) (item : Item) (other : X) : Type 0 where
  pub place : ℕ
  pub here : IsAt items place item
  pub there : slice_get others place ≡ Some other
