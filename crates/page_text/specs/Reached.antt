-- The changes that an item waits for, over all that are named on the way.
use Rattle.std.specs.Prelude.{◌≡◌, ◌↔◌, ◌≤◌, ℕ, ◌==◌, List, [], ◌∷◌, ◌++◌, Option, None, Some, Contains, length}
use Rattle.std.specs.Prelude.{slice_get, take}
use Rattle.std.specs.Prelude.{if◌then◌else◌}
use Rattle.std.specs.List.Sorted.{IsStrictlyIncreasing}
use Rattle.walk_core.specs.Ranks.{LeadsTo}
use Rattle.gate_rules.specs.Rules.{GateRules}
use Rattle.state_core.specs.State.{State}
use Rattle.state_core.specs.declared.item.Item.{Item}
use Rattle.graph_core.specs.Dependencies.{Names}
use Rattle.why_text.specs.Asked.{IsItemAsked}

-- just the changes that an item names, in order
pub record AreNames (gate : GateRules) (state : State) (item : Item) (numbers : List ℕ) : Type 0 where
  pub increasing : IsStrictlyIncreasing numbers
  pub each : (number : ℕ) → Contains numbers number ↔ Names gate state item number

-- of the item's own change the item itself is looked at, of each other change its current item
abbrev pub set_seen : Item → ℕ → Option ℕ
set_seen item number = if number == item.change then Some item.set else None

-- one change names another: its item does
abbrev pub NamesFrom : GateRules → State → Item → ℕ → ℕ → Type 0
NamesFrom gate state item number other =
    (from : Item) × IsItemAsked state number (set_seen item number) from × Names gate state from other

-- each is there once
abbrev pub AreDistinct : List ℕ → Type 0
AreDistinct [] = Unit {0}
AreDistinct (number ∷ numbers) = ¬ Contains numbers number × AreDistinct numbers

-- the numbers of a kind are added at the end, as far as they aren't there
pub record AddsNumbers (Kind : ℕ → Type 0) (old new : List ℕ) : Type 0 where
  pub added : List ℕ
  pub is : new ≡ old ++ added
  pub from : (number : ℕ) → Contains added number → Kind number
  pub all : (number : ℕ) → Kind number → Contains new number
  pub once : AreDistinct old → AreDistinct new

-- changes that are reached, the item's own first, each once; what the first ones name, as many as these, is among them
pub record HasReached (gate : GateRules) (state : State) (item : Item) (seen : ℕ) (changes : List ℕ) : Type 0 where
  pub first : slice_get changes 0 ≡ Some item.change
  pub once : AreDistinct changes
  pub each : (number : ℕ) → Contains changes number → LeadsTo (NamesFrom gate state item) item.change number
  pub closed : (number other : ℕ) → Contains (take seen changes) number → NamesFrom gate state item number other
      → Contains changes other

-- just the changes that are reached over names from the item's own one, which is the first; each is there once. Where
-- there are more than 60 some may be left out.
pub record AreReachedChanges (gate : GateRules) (state : State) (item : Item) (changes : List ℕ) : Type 0 where
  pub first : slice_get changes 0 ≡ Some item.change
  pub once : AreDistinct changes
  pub each : (number : ℕ) → Contains changes number → LeadsTo (NamesFrom gate state item) item.change number
  pub all : length changes ≤ 60 → (number : ℕ) → LeadsTo (NamesFrom gate state item) item.change number
      → Contains changes number
