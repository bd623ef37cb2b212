-- When two states say the same of some items and of all that these reach.
use Rattle.std.specs.Prelude.{◌≡◌, ◌⊎◌, ℕ, Bool, not}
use Rattle.std.specs.FinMap as finite
use Rattle.walk_core.specs.Walks.{IsOfKind}
use Rattle.gate_rules.specs.Rules.{GateRules}
use Rattle.state_core.specs.declared.item.Item.{Item}
use Rattle.state_core.specs.State.{State}
use Rattle.state_core.specs.Known.{IsMerged}
use Rattle.graph_core.specs.Dependencies.{IsDependency, Names}

-- the change is the same in both states, or is in neither
abbrev pub IsSame : State → State → ℕ → Type 0
IsSame before after number = finite.get before number ≡ finite.get after number

-- as a dependency the change is the same in both states, or merged in both
abbrev pub IsSettled : State → State → ℕ → Type 0
IsSettled before after number = IsSame before after number ⊎ (IsMerged before number × IsMerged after number)

-- the part is untouched: the change of each of its items is the same in both states, each change that one of them names
-- is the same or merged in both, and no edge leads out of the part
pub record IsUntouched (gate : GateRules) (before after : State) (part : Item → Bool) : Type 0 where
  pub own : (item : Item) → IsOfKind part item → IsSame before after item.change
  pub named : (item : Item) (number : ℕ) → IsOfKind part item → Names gate before item number
      → IsSettled before after number
  pub ends : (item other : Item) → IsOfKind part item → IsDependency gate before item other → IsOfKind part other

-- the items that aren't in the part
abbrev pub others : (Item → Bool) → Item → Bool
others part item = not (part item)
