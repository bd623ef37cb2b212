-- Which items are kept as those that wait for a change.
use Rattle.std.specs.Prelude.{◌≡◌, ◌||◌, ◌⊎◌, ℕ, Bool, true, List, [], Option, None, Some, Contains, map}
use Rattle.std.specs.Map.{lookup}
use Rattle.std.specs.Ordering.{is_eq, nat_cmp, ordering_then}
use Rattle.std.specs.declared.cmp.Ordering.{Ordering}
use Rattle.std.specs.Global.{Vec}
use Rattle.std.specs.declared.vec.Vec.{Vec as AnyVec}
use Rattle.std.specs.BTreeMap.{BTreeMap, get}
use Rattle.std.specs.BTreeSet.{BTreeSet, contains}
use Rattle.review_ops.specs.Operation.{Operation}
use Rattle.watch_core.specs.Touched.{touches}
use Rattle.walk_core.specs.Walks.{IsOfKind}
use Rattle.gate_rules.specs.Rules.{GateRules}
use Rattle.state_core.specs.declared.item.Item.{Item}
use Rattle.state_core.specs.State.{State}
use Rattle.state_core.specs.Items.{IsCurrentItem}
use Rattle.graph_core.specs.Dependencies.{IsTarget}

-- the items that a map has at a change
abbrev pub items_at : {X Z : Type 0} → Option (AnyVec X Z) → List X
items_at None = []
items_at (Some named) = named.items

abbrev pub Namers : Type 0
Namers = BTreeMap ℕ (Vec Item)

-- the item is kept as one that waits for the change
abbrev pub IsNamer : Namers → ℕ → Item → Type 0
IsNamer namers number item = Contains (items_at (get nat_cmp namers number)) item

-- what waits for a change in the first waits for it in the second
abbrev pub KeepsNamers : Namers → Namers → Type 0
KeepsNamers old new = (number : ℕ) (item : Item) → IsNamer old number item → IsNamer new number item

-- all items that wait for a change in the state are kept
abbrev pub HaveNamers : GateRules → State → Namers → Type 0
HaveNamers gate state namers = (item : Item) (number : ℕ) → IsTarget gate state item number → IsNamer namers number item

-- the same as lists: with each change the items that wait for it
abbrev pub Rows : Type 0
Rows = List (ℕ × List Item)

abbrev pub namer_rows : Namers → Rows
namer_rows namers = map (λ entry. (entry.0, entry.1.items)) namers.entries

abbrev pub namer_row : Option (List Item) → List Item
namer_row None = []
namer_row (Some row) = row

-- the row of a change has the item
abbrev pub IsInRow : Rows → ℕ → Item → Type 0
IsInRow rows number item = Contains (namer_row (lookup (λ key. is_eq (nat_cmp number key)) rows)) item

-- all items that wait for a change in the state are in its row
abbrev pub HaveRows : GateRules → State → Rows → Type 0
HaveRows gate state rows = (item : Item) (number : ℕ) → IsTarget gate state item number → IsInRow rows number item

-- the items hold those that wait for a touched change, and those that wait for the change of one of them that is
-- current
pub record HoldNamers (state : State) (namers : Namers) (later : List Operation) (reached : Item → Bool) : Type 0 where
  pub waiting : (item : Item) (number : ℕ) → IsNamer namers number item → touches later number ≡ true
      → IsOfKind reached item
  pub leading : (item other : Item) → IsNamer namers other.change item → IsCurrentItem state other
      → IsOfKind reached other → IsOfKind reached item

-- ---- the items that are judged again
abbrev pub namer_pair_cmp : ℕ × ℕ → ℕ × ℕ → Ordering
namer_pair_cmp a b = ordering_then (nat_cmp a.0 b.0) (nat_cmp a.1 b.1)

-- the set has the item
abbrev pub has_item : BTreeSet (ℕ × ℕ) → Item → Bool
has_item items item = contains namer_pair_cmp items (item.change, item.set)

-- whether the item is judged again: it is of a change of the first set or in the second, or all are
abbrev pub is_again : BTreeSet ℕ → Bool → BTreeSet (ℕ × ℕ) → Item → Bool
is_again touched all items item = contains nat_cmp touched item.change || (all || has_item items item)

-- the items of touched changes and those of the set, or all
abbrev pub is_reached : List Operation → Bool → BTreeSet (ℕ × ℕ) → Item → Bool
is_reached later all items item = touches later item.change || (all || has_item items item)

-- the set has all items that wait for the change
abbrev pub AreAdded : Namers → BTreeSet (ℕ × ℕ) → ℕ → Type 0
AreAdded namers items number = (item : Item) → IsNamer namers number item → has_item items item ≡ true

-- of each touched change, and of that of each current item of the set, the change is ahead, or the set has all that
-- wait for it
pub record IsSpreading (state : State) (namers : Namers) (later : List Operation) (items : BTreeSet (ℕ × ℕ)) (ahead : List ℕ) : Type 0 where
  pub touched : (number : ℕ) → touches later number ≡ true → Contains ahead number ⊎ AreAdded namers items number
  pub current : (other : Item) → has_item items other ≡ true → IsCurrentItem state other
      → Contains ahead other.change ⊎ AreAdded namers items other.change

-- the set has the items that it had, and these; what was ahead is ahead, and so is the change of each item that is new
-- and current
pub record AddsWaiting (state : State) (added : Item → Type 0) (old : BTreeSet (ℕ × ℕ)) (before : List ℕ) (new : BTreeSet (ℕ × ℕ)) (now : List ℕ) : Type 0 where
  pub keeps : (item : Item) → has_item old item ≡ true → has_item new item ≡ true
  pub adds : (item : Item) → added item → has_item new item ≡ true
  pub stays : (number : ℕ) → Contains before number → Contains now number
  pub ahead : (item : Item) → has_item new item ≡ true → IsCurrentItem state item
      → (has_item old item ≡ true) ⊎ Contains now item.change
