-- How items are kept, so that they can be looked up.
use Rattle.std.specs.Prelude.{◌≡◌, Bool, List}
use Rattle.std.specs.List.{list_any}
use Rattle.std.specs.List.Sorted.{IsSorted}
use Rattle.state_core.specs.declared.item.Item.{Item}
use Rattle.state_core.specs.Items.{item_cmp}

-- the items are there once more in item order
pub record AreSortedItems (items ordered : List Item) : Type 0 where
  pub same : (test : Item → Bool) → list_any test ordered ≡ list_any test items
  pub ordered_is : IsSorted item_cmp ordered
