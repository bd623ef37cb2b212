-- Items of a state that are listed, since they are to be judged again.
use Rattle.std.specs.Prelude.{◌⊎◌, List, Contains}
use Rattle.state_core.specs.declared.item.Item.{Item}
use Rattle.state_core.specs.State.{State}
use Rattle.state_core.specs.Items.{IsItem}

-- the list has what it had, and each item of the state that is wanted, unless it is still ahead; what else it has are
-- items of the state
pub record AddsBut (state : State) (wanted ahead : Item → Type 0) (old new : List Item) : Type 0 where
  pub keeps : (item : Item) → Contains old item → Contains new item
  pub adds : (item : Item) → IsItem state item → wanted item → Contains new item ⊎ ahead item
  pub items : (item : Item) → Contains new item → Contains old item ⊎ IsItem state item

-- the same, where nothing is ahead
abbrev pub AddsItems : State → (Item → Type 0) → List Item → List Item → Type 0
AddsItems state wanted = AddsBut state wanted (λ item. ⊥)
