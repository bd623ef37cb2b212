-- A search for the items that some items reach. Items are found, or ahead: their own dependencies are still to be
-- searched.
use Rattle.std.specs.Prelude.{◌≡◌, ◌↔◌, ◌⊎◌, ℕ, List, Contains, IsTrue}
use Rattle.std.specs.Ordering.{nat_cmp, ordering_then}
use Rattle.std.specs.declared.cmp.Ordering.{Ordering}
use Rattle.std.specs.BTreeSet.{BTreeSet, contains}
use Rattle.gate_rules.specs.Rules.{GateRules}
use Rattle.state_core.specs.declared.item.Item.{Item}
use Rattle.state_core.specs.State.{State}
use Rattle.state_core.specs.Items.{IsCurrentItem, IsItem}
use Rattle.graph_core.specs.Dependencies.{IsDependency}

abbrev pub pair_cmp : ℕ × ℕ → ℕ × ℕ → Ordering
pair_cmp a b = ordering_then (nat_cmp a.0 b.0) (nat_cmp a.1 b.1)

-- the set has the item, as its change and its patch set
abbrev pub IsFoundItem : BTreeSet (ℕ × ℕ) → Item → Type 0
IsFoundItem found item = IsTrue (contains pair_cmp found (item.change, item.set))

-- the item is found or ahead
abbrev pub IsSeen : BTreeSet (ℕ × ℕ) → List Item → Item → Type 0
IsSeen found ahead item = IsFoundItem found item ⊎ Contains ahead item

-- only items of the state are found or ahead; the first ones are, and so is the end of each edge of an item that is
-- found
pub record IsClosing (gate : GateRules) (state : State) (first : List Item) (found : BTreeSet (ℕ × ℕ)) (ahead : List Item) : Type 0 where
  pub items : (item : Item) → IsSeen found ahead item → IsItem state item
  pub has : (item : Item) → Contains first item → IsSeen found ahead item
  pub held : (item other : Item) → IsFoundItem found item → IsDependency gate state item other → IsSeen found ahead other

-- what was ahead is ahead, and so is the current item of each of the changes; what else is ahead is an item of the
-- state
pub record AddsCurrent (state : State) (numbers : List ℕ) (old new : List Item) : Type 0 where
  pub keeps : (item : Item) → Contains old item → Contains new item
  pub adds : (item : Item) → Contains numbers item.change → IsCurrentItem state item → Contains new item
  pub items : (item : Item) → Contains new item → Contains old item ⊎ IsItem state item

-- what was ahead is ahead, and so is the end of each edge of the item; what else is ahead is an item of the state
pub record AddsEnds (gate : GateRules) (state : State) (item : Item) (old new : List Item) : Type 0 where
  pub keeps : (other : Item) → Contains old other → Contains new other
  pub adds : (other : Item) → IsDependency gate state item other → Contains new other
  pub items : (other : Item) → Contains new other → Contains old other ⊎ IsItem state other

-- the item is added to the found ones; if it is new, the ends of its edges are added to the items ahead
pub record FindsItem (gate : GateRules) (state : State) (item : Item) (old : BTreeSet (ℕ × ℕ)) (before : List Item) (new : BTreeSet (ℕ × ℕ)) (now : List Item) : Type 0 where
  pub found : (other : Item) → IsFoundItem new other ↔ (IsFoundItem old other ⊎ (other ≡ item))
  pub ahead : (IsFoundItem old item × (now ≡ before)) ⊎ AddsEnds gate state item before now
