-- How a listing is kept, so that it can be searched.
use Rattle.std.specs.Prelude.{◌≡◌, List, Bool}
use Rattle.std.specs.List.{list_any}
use Rattle.std.specs.List.Sorted.{IsSorted, IsStrictlySortedBy}
use Rattle.state_core.specs.declared.item.Item.{Item}
use Rattle.ready_core.specs.declared.verdicts.Left.{Left}
use Rattle.state_core.specs.Items.{item_cmp}
use Rattle.ready_core.specs.Verdicts.{items_out}

-- the items that are ready are there once more in item order, and the others are in that order
pub record AreSortedListings (ready ordered : List Item) (out : List Left) : Type 0 where
  pub same : (test : Item → Bool) → list_any test ordered ≡ list_any test ready
  pub ordered_is : IsSorted item_cmp ordered
  pub out_is : IsStrictlySortedBy item_cmp (items_out out)
