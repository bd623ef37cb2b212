-- Items: the known patch sets of changes, and the current ones among them (Gerrit, "Changes": a change has patch sets,
-- of which the last is the current one).
use Rattle.std.specs.Prelude.{◌≡◌, Some}
use Rattle.std.specs.declared.cmp.Ordering.{Ordering}
use Rattle.std.specs.Ordering.{nat_cmp, ordering_then}
use Rattle.std.specs.FinMap as finite
use Rattle.change_core.specs.Change.{Change}
use Rattle.change_core.specs.Views.{IsGreatestKnown, IsKnownSet}
use Rattle.state_core.specs.State.{State}
use Rattle.state_core.specs.declared.item.Item.{Item}

-- the item's change has its patch set
abbrev pub IsItem : State → Item → Type 0
IsItem state item = (change : Change) × (finite.get state item.change ≡ Some change) × IsKnownSet change item.set

-- the item is the current patch set of its change: the greatest known
pub record IsCurrentItem (state : State) (item : Item) : Type 0 where
  pub change : Change
  pub stands : finite.get state item.change ≡ Some change
  pub greatest : IsGreatestKnown change item.set

-- items are in the order of their changes, then of their patch sets
abbrev pub item_cmp : Item → Item → Ordering
item_cmp a b = ordering_then (nat_cmp a.change b.change) (nat_cmp a.set b.set)
