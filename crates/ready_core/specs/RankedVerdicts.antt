-- Verdicts with what each ready item is ordered by.
use Rattle.std.specs.Prelude.{List, Contains, map}
use Rattle.walk_core.specs.Ranks.{IsRank, Rank}
use Rattle.gate_rules.specs.Rules.{GateRules}
use Rattle.state_core.specs.declared.item.Item.{Item}
use Rattle.state_core.specs.State.{State}
use Rattle.state_core.specs.Items.{item_cmp}
use Rattle.graph_core.specs.Dependencies.{IsDependency}
use Rattle.graph_core.specs.ItemGraph.{ArePart}
use Rattle.ready_core.specs.declared.verdicts.Left.{Left}
use Rattle.ready_core.specs.Refusals.{IsReady}
use Rattle.ready_core.specs.Verdicts.{AreVerdictsOn, Judged}

-- verdicts with what each ready item is ordered by
pub record RankedVerdicts : Type 0 where
  pub ranks : List (Rank Item)
  pub out : List Left

abbrev pub judged : RankedVerdicts → Judged
judged ranked = record { ready = map (λ rank. rank.node) ranked.ranks; out = ranked.out }

-- the ranks of the ready items are their ranks in the state
abbrev pub AreReadyRanks : GateRules → State → List (Rank Item) → Type 0
AreReadyRanks gate state ranks =
    (rank : Rank Item) → Contains ranks rank → IsRank item_cmp (IsDependency gate state) (IsReady gate state) rank

-- the verdicts on a part of the items of the state
pub record AreRankedVerdictsOn (gate : GateRules) (state : State) (items : List Item) (ranked : RankedVerdicts) : Type 0 where
  pub part : ArePart gate state items
  pub verdicts : AreVerdictsOn gate state items (judged ranked)
  pub ranks : AreReadyRanks gate state ranked.ranks
