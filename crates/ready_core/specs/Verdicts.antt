-- What evaluating a state under a gate gives.
use Rattle.std.specs.Prelude.{◌≡◌, ◌↔◌, ℕ, List, Contains, Some, map, slice_get}
use Rattle.std.proofs.Common.{suc}
use Rattle.std.specs.List.Sorted.{IsStrictlySortedBy}
use Rattle.walk_core.specs.Ranks.{IsInRankOrder}
use Rattle.gate_rules.specs.Rules.{GateRules}
use Rattle.graph_core.specs.Dependencies.{IsDependency}
use Rattle.state_core.specs.Items.{IsItem}
use Rattle.state_core.specs.declared.item.Item.{Item}
use Rattle.state_core.specs.State.{State}
use Rattle.state_core.specs.Items.{item_cmp}
use Rattle.state_core.specs.Items.{IsCurrentItem}
use Rattle.ready_core.specs.declared.verdicts.Left.{Left}
use Rattle.ready_core.specs.declared.verdicts.Refusal.{Refusal}
use Rattle.ready_core.specs.declared.verdicts.Refusal.TheVariants.{Own, Cycle, Unknown, Dependency}
use Rattle.ready_core.specs.Refusals.{IsReady, IsRefused}

-- the items that are ready, and those left out, each with its refusal
pub record Judged : Type 0 where
  pub ready : List Item
  pub out : List Left

abbrev pub items_out : List Left → List Item
items_out = map (λ left. left.item)

-- at the place is the verdict on the item
pub record IsOutAt (out : List Left) (item : Item) (place : ℕ) : Type 0 where
  pub left : Left
  pub here : slice_get out place ≡ Some left
  pub of : left.item ≡ item

-- just the ready items, in rank order: by how many ready items an item waits for, over others, itself among them, then
-- by the least item of its cycle, then by itself
abbrev pub IsInGateOrder : GateRules → State → List Item → Type 0
IsInGateOrder gate state = IsInRankOrder item_cmp (IsDependency gate state) (IsReady gate state)

-- the verdicts are those of the state under the gate: just the items that some closed set of eligible items has are
-- ready, each other one is left out for its refusal, and both lists are in order, each item once: the ready ones in
-- gate order, in which each comes after what it waits for, but for its cycle, and the others by change and patch set
pub record AreVerdicts (gate : GateRules) (state : State) (verdicts : Judged) : Type 0 where
  pub ready : (item : Item) → Contains verdicts.ready item ↔ IsReady gate state item
  pub out : (item : Item) → Contains (items_out verdicts.out) item ↔ (IsItem state item × ¬ IsReady gate state item)
  pub refused : (left : Left) → Contains verdicts.out left → IsRefused gate state left.item left.refusal left.rank
  pub ready_in_order : IsInGateOrder gate state verdicts.ready
  pub out_in_order : IsStrictlySortedBy item_cmp (items_out verdicts.out)

-- the verdicts are those on some items of the state under the gate: of these just the ones that are ready in the whole
-- state are ready, each other one is left out for its refusal in the whole state, and both lists are in order, as in
-- the verdicts on all items
pub record AreVerdictsOn (gate : GateRules) (state : State) (items : List Item) (verdicts : Judged) : Type 0 where
  pub ready : (item : Item) → Contains verdicts.ready item ↔ (Contains items item × IsReady gate state item)
  pub out : (item : Item) → Contains (items_out verdicts.out) item ↔ (Contains items item × ¬ IsReady gate state item)
  pub refused : (left : Left) → Contains verdicts.out left → IsRefused gate state left.item left.refusal left.rank
  pub ready_in_order : IsInRankOrder item_cmp (IsDependency gate state)
      (λ item. Contains items item × IsReady gate state item) verdicts.ready
  pub out_in_order : IsStrictlySortedBy item_cmp (items_out verdicts.out)

-- the change's current item is left out with this rank
pub record IsLeftAt (state : State) (verdicts : Judged) (number rest : ℕ) : Type 0 where
  pub next : Left
  pub out : Contains verdicts.out next
  pub current : IsCurrentItem state next.item
  pub of : next.item.change ≡ number
  pub rank : next.rank ≡ rest

-- where the item is left out for a dependency, that is left out with the rank below
abbrev pub LeadsFrom : State → Judged → Refusal → ℕ → Type 0
LeadsFrom state verdicts (Own condition) rank = rank ≡ 0
LeadsFrom state verdicts Cycle rank = rank ≡ 0
LeadsFrom state verdicts (Unknown number) rank = rank ≡ 0
LeadsFrom state verdicts (Dependency number) rank = (rest : ℕ) × (rank ≡ suc rest) × IsLeftAt state verdicts number rest

abbrev pub LeadsOn : State → Judged → Left → Type 0
LeadsOn state verdicts left = LeadsFrom state verdicts left.refusal left.rank
