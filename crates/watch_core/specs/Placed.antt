-- Lists in which what was found of some items takes the place of what was kept of them.
use Rattle.std.specs.Prelude.{◌≡◌, ◌↔◌, ◌⊎◌, ◌≤◌, ℕ, Bool, true, List, Contains, Some, drop, length, map, slice_get}
use Rattle.std.specs.Prelude.{take}
use Rattle.std.specs.declared.cmp.Ordering.{Ordering}
use Rattle.std.specs.declared.cmp.Ordering.TheVariants.{Less}
use Rattle.std.specs.List.Sorted.{IsStrictlySortedBy}
use Rattle.walk_core.specs.Ranks.{rank_cmp}
use Rattle.state_core.specs.declared.item.Item.{Item}
use Rattle.state_core.specs.Items.{item_cmp}
use Rattle.ready_core.specs.declared.ranked.ItemRank.{ItemRank}
use Rattle.ready_core.specs.declared.verdicts.Left.{Left}
use Rattle.ready_core.specs.ItemRanks.{to_rank}
use Rattle.ready_core.specs.RankedVerdicts.{RankedVerdicts}
use Rattle.ready_core.specs.Verdicts.{items_out}
use Rattle.walk_core.specs.Ranks.{Rank}

-- of the items that are changed the new list has what was found, of the others what was kept
pub record HasNew {X : Type 0} (of : X → Item) (changed : Item → Type 0) (found kept new : List X) : Type 0 where
  pub each : (x : X) → Contains new x ↔ ((changed (of x) × Contains found x) ⊎ ((¬ changed (of x)) × Contains kept x))

-- there is one for each item at most
pub record IsOneEach {X : Type 0} (of : X → Item) (xs : List X) : Type 0 where
  pub one : (x y : X) → Contains xs x → Contains xs y → of x ≡ of y → x ≡ y

-- no item is in both lists
pub record ShareNoItem {X Y : Type 0} (of : X → Item) (by : Y → Item) (xs : List X) (ys : List Y) : Type 0 where
  pub none : (x : X) (y : Y) → Contains xs x → Contains ys y → ¬ (of x ≡ by y)

-- ---- the lists of verdicts
abbrev pub node_of : ItemRank → Item
node_of rank = rank.node

abbrev pub left_item : Left → Item
left_item left = left.item

-- what is before the place is below the key, and what is from the place on is above
pub record IsPlaceFor {X Y : Type 0} (key_of : X → Y) (cmp : Y → Y → Ordering) (xs : List X) (key : Y) (place : ℕ) : Type 0 where
  pub within : place ≤ length xs
  pub before : (x : X) → Contains (take place xs) x → cmp (key_of x) key ≡ Less
  pub behind : (x : X) → Contains (drop place xs) x → cmp key (key_of x) ≡ Less

-- the ready items, and what they are ordered by, side by side and in order, each once
pub record AreReady (ready : List Item) (ranks : List ItemRank) : Type 0 where
  pub nodes : ready ≡ map node_of ranks
  pub rising : IsStrictlySortedBy (rank_cmp item_cmp) (map to_rank ranks)
  pub one_each : IsOneEach node_of ranks

-- the lists of verdicts, in order, in which each item is once
pub record AreLists (ready : List Item) (ranks : List ItemRank) (out : List Left) : Type 0 where
  pub ranked : AreReady ready ranks
  pub out_in_order : IsStrictlySortedBy item_cmp (items_out out)
  pub apart : ShareNoItem node_of left_item ranks out

-- the item is in the verdicts
abbrev pub IsIn : RankedVerdicts → Item → Type 0
IsIn verdicts item = Contains (map (λ rank. rank.node) verdicts.ranks) item ⊎ Contains (items_out verdicts.out) item

-- each item is once in the verdicts
pub record StandOnce (verdicts : RankedVerdicts) : Type 0 where
  pub ranks : IsOneEach (λ (rank : Rank Item). rank.node) verdicts.ranks
  pub out : IsOneEach left_item verdicts.out
  pub apart : ShareNoItem (λ (rank : Rank Item). rank.node) left_item verdicts.ranks verdicts.out

-- each item that is judged again, and is in the kept verdicts, is in those that were found
pub record FindsAgain (judged : Item → Bool) (kept found : RankedVerdicts) : Type 0 where
  pub finds : (item : Item) → judged item ≡ true → IsIn kept item → IsIn found item

-- one of what was found is of the item, which is judged again
pub record IsFoundAgain {X : Type 0} (of : X → Item) (judged : Item → Bool) (found : List X) (item : Item) : Type 0 where
  pub again : judged item ≡ true
  pub one : X
  pub there : Contains found one
  pub is : of one ≡ item
