-- Verdicts of which some are new and the others are kept.
use Rattle.std.specs.Prelude.{◌↔◌, Bool, true, false, List, Contains}
use Rattle.std.specs.List.Sorted.{IsStrictlySortedBy}
use Rattle.walk_core.specs.Walks.{IsOfKind}
use Rattle.walk_core.specs.Ranks.{Rank, rank_cmp}
use Rattle.gate_rules.specs.Rules.{GateRules}
use Rattle.state_core.specs.declared.item.Item.{Item}
use Rattle.state_core.specs.State.{State}
use Rattle.state_core.specs.Items.{IsItem, item_cmp}
use Rattle.ready_core.specs.declared.verdicts.Left.{Left}
use Rattle.ready_core.specs.Verdicts.{AreVerdicts, items_out}
pub use Rattle.ready_core.specs.RankedVerdicts.{AreRankedVerdictsOn, AreReadyRanks, RankedVerdicts, judged}

-- the verdicts of the state
pub record AreRankedVerdicts (gate : GateRules) (state : State) (ranked : RankedVerdicts) : Type 0 where
  pub verdicts : AreVerdicts gate state (judged ranked)
  pub ranks : AreReadyRanks gate state ranked.ranks

-- the list holds all items of the state that were reached
abbrev pub HoldsItems : State → (Item → Bool) → List Item → Type 0
HoldsItems state reached items = (item : Item) → IsItem state item → IsOfKind reached item → Contains items item

-- the first where the item was reached, else the second
abbrev pub IsBy : Bool → Type 0 → Type 0 → Type 0
IsBy true found kept = found
IsBy false found kept = kept

-- the new verdicts have what was found of the items that were reached, and of the others what was kept, both in order
pub record IsBroughtUp (reached : Item → Bool) (old found new : RankedVerdicts) : Type 0 where
  pub ranks : (rank : Rank Item)
      → Contains new.ranks rank ↔ IsBy (reached rank.node) (Contains found.ranks rank) (Contains old.ranks rank)
  pub out : (left : Left)
      → Contains new.out left ↔ IsBy (reached left.item) (Contains found.out left) (Contains old.out left)
  pub rising : IsStrictlySortedBy (rank_cmp item_cmp) new.ranks
  pub out_in_order : IsStrictlySortedBy item_cmp (items_out new.out)
