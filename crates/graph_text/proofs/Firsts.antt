-- The first place of a cycle has its first item.
use Rattle.std.proofs.Common.{◌≡◌, ◌<◌, ℕ, zero, suc, inl, inr, List, Contains, length, refl, sym, ◌∙◌, ap, subst}
use Rattle.std.proofs.Common.{arith}
use Rattle.std.specs.declared.cmp.Ordering.TheVariants.{Less}
use Rattle.std.specs.Ordering.{nat_cmp}
use Rattle.std.proofs.lemmas.Bool.{cases_lt}
use Rattle.std.proofs.lemmas.Option.{slice_get_within, slice_get-get_or, get_or_from_slice_get}
use Rattle.lattice_core.specs.PlaceLaws.{at_Contains, sorted_at, not_below_itself, earlier_or_same}
use Rattle.lattice_core.specs.ZipLaws.{length-AllZip}
use Rattle.walk_core.specs.Components.{IsFirst}
use Rattle.walk_core.specs.Digraphs.{HasEdge}
use Rattle.walk_core.specs.Ranks.{LeadsTo, AreTogether, IsLeast}
use Rattle.walk_core.specs.RankLaws.{nat_cmp-less}
use Rattle.gate_rules.specs.Rules.{GateRules}
use Rattle.state_core.specs.State.{State}
use Rattle.state_core.specs.Items.{item_cmp}
use Rattle.state_core.specs.ItemLaws.{items_total}
use Rattle.state_core.specs.declared.item.Item.{Item}
use Rattle.graph_core.specs.Dependencies.{IsDependency}
use Rattle.graph_core.specs.ItemGraph.{AreItems, ItemGraph, IsAt, IsGraphOf, AreEnds}
use Rattle.graph_core.specs.WalkLaws.{ends_within}
use Rattle.graph_text.proofs.Around.{held, leads_items, leads_places}

module _ (gate : GateRules) (state : State) (graph : ItemGraph) (is : IsGraphOf gate state graph)
    (whole : AreItems state graph.items) where
  leads_there : (place : ℕ) (item other : Item) → IsAt graph.items place item
      → LeadsTo (IsDependency gate state) item other → (end : ℕ) × IsAt graph.items end other
  leads_there place item other here (zero, same) = (place, subst (IsAt graph.items place) same here)
  leads_there place item other here (suc n, walk) =
      let next = at_Contains graph.items walk.0 (held gate state graph is whole item walk.0 walk.1) in
      leads_there next.0 walk.0 other next.1 (n, walk.2)

  module _ (place first : ℕ) (item leader : Item) (here : IsAt graph.items place item)
      (there : IsAt graph.items first leader) (is_first : IsFirst graph.ends place first) where
    not_earlier : (other : Item) → AreTogether (IsDependency gate state) item other → ¬ (item_cmp other leader ≡ Less)
    not_earlier other together less =
        let at = leads_there place item other here together.forth in
        let places : AreTogether (HasEdge graph.ends) place at.0 = record {
          forth = leads_places gate state graph is whole place at.0 item other here at.1 together.forth;
          back = leads_places gate state graph is whole at.0 place other item at.1 here together.back;
        } in
        elim (cases_lt at.0 first) [
          | inl before ↦ is_first.least at.0 places (nat_cmp-less at.0 first before)
          | inr not ↦ elim (earlier_or_same first at.0 not) [
            | inl after ↦ not_below_itself items_total other (items_total.trans other leader other less (sorted_at item_cmp graph.items is.items.in_order first at.0 leader other after there at.1))
            | inr same ↦ not_below_itself items_total other
                (subst (λ z. item_cmp other z ≡ Less) (one_of first at.0 leader other same there at.1) less)
          ]
        ] where
          one_of : (i j : ℕ) (a b : Item) → i ≡ j → IsAt graph.items i a → IsAt graph.items j b → a ≡ b
          one_of i j a b same at_i at_j = cc

    pub first_item : IsLeast item_cmp (AreTogether (IsDependency gate state) item) leader
    first_item = record {
      here = record {
        forth = leads_items gate state graph is whole place first item leader here there is_first.here.forth;
        back = leads_items gate state graph is whole first place leader item there here is_first.here.back;
      };
      least = not_earlier;
    }
