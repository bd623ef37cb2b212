-- The verdicts on all items of a state are its verdicts.
use Rattle.std.specs.Prelude.{◌↔◌, List, Contains}
use Rattle.std.specs.declared.cmp.Ordering.{Ordering}
use Rattle.walk_core.specs.Ranks.{IsInRankOrder}
use Rattle.gate_rules.specs.Rules.{GateRules}
use Rattle.state_core.specs.declared.item.Item.{Item}
use Rattle.state_core.specs.State.{State}
use Rattle.state_core.specs.Items.{item_cmp}
use Rattle.graph_core.specs.Dependencies.{IsDependency}
use Rattle.graph_core.specs.ItemGraph.{AreItems}
use Rattle.ready_core.specs.Refusals.{IsReady}
use Rattle.ready_core.specs.Verdicts.{AreVerdicts, AreVerdictsOn, IsInGateOrder, Judged}

-- rank order does not depend on how it is written which nodes are ordered
same_order : {N : Type 0} {cmp : N → N → Ordering} {E : N → N → Type 0} {P Q : N → Type 0} (nodes : List N)
    → ((x : N) → P x ↔ Q x) → IsInRankOrder cmp E P nodes → IsInRankOrder cmp E Q nodes
same_order nodes same order = record {
  just = λ x. (λ has. (same x).0 ((order.just x).0 has), λ is. (order.just x).1 ((same x).1 is));
  ranks = order.ranks;
  of = order.of;
  each = λ rank has.
      let its = order.each rank has in
      record {
        count = record {
          members = its.count.members;
          in_order = its.count.in_order;
          just = λ y. (
            λ member. let found = (its.count.just y).0 member in ((same y).0 found.0, found.1),
            λ found. (its.count.just y).1 ((same y).1 found.0, found.1),
          );
          size = its.count.size;
        };
        first = its.first;
      };
  rising = order.rising;
}

-- the verdicts on all items of a state are its verdicts
pub on_all_items : (gate : GateRules) (state : State) (items : List Item) (verdicts : Judged) → AreItems state items
    → AreVerdictsOn gate state items verdicts → AreVerdicts gate state verdicts
on_all_items gate state items verdicts whole are =
    let there : (item : Item) → IsReady gate state item → Contains items item = λ item ready.
    let eligible = ready.closed.members item ready.has in (whole.each item).1 eligible.there in
    let order : IsInGateOrder gate state verdicts.ready =
    same_order {cmp = item_cmp} {E = IsDependency gate state}
    {P = λ item. Contains items item × IsReady gate state item} {Q = IsReady gate state} verdicts.ready
    (λ item. (λ ready. ready.1, λ ready. (there item ready, ready))) are.ready_in_order in
    record {
      ready = order.just;
      out = λ item. (
        λ has. let left = (are.out item).0 has in ((whole.each item).0 left.0, left.1),
        λ left. (are.out item).1 ((whole.each item).1 left.0, left.1),
      );
      refused = are.refused;
      ready_in_order = order;
      out_in_order = are.out_in_order;
    }
