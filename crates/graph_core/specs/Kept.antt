-- What a graph keeps beside what it shows.
use Rattle.std.specs.Prelude.{◌≡◌, ℕ, Bool, List, length}
use Rattle.std.specs.List.Sorted.{IsStrictlySortedBy}
use Rattle.state_core.specs.declared.item.Item.{Item}
use Rattle.state_core.specs.Items.{item_cmp}

-- what a graph keeps: the items in order, and as many rows and flags as items
pub record KeepsGraph (items : List Item) (targets ends : List (List ℕ)) (on_cycle : List Bool) : Type 0 where
  pub in_order : IsStrictlySortedBy item_cmp items
  pub rows : length targets ≡ length items
  pub nodes : length ends ≡ length items
  pub flags : length on_cycle ≡ length items
