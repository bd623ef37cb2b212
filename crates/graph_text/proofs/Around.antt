-- Flags beside the items of a graph say which of them are ahead of a change, and which behind it.
use Rattle.std.proofs.Common.{◌≡◌, ◌↔◌, ◌<◌, ◌∙◌, ℕ, Bool, true, List, Contains, Option, None, Some, map, length}
use Rattle.std.proofs.Common.{replicate, refl, sym, ap, subst, arith, eq-eqb}
use Rattle.std.specs.Prelude.{option_map, slice_get}
use Rattle.std.proofs.lemmas.Bool.{eqb-true}
use Rattle.std.proofs.lemmas.List.{get_or-replicate, length-map, length-replicate}
use Rattle.std.proofs.lemmas.Option.{slice_get-map, slice_get-get_or, slice_get_within}
use Rattle.walk_core.specs.Ranks.{LeadsTo}
use Rattle.walk_core.specs.Digraphs.{HasEdge, IsMarked}
use Rattle.gate_rules.specs.Rules.{GateRules}
use Rattle.state_core.specs.State.{State}
use Rattle.state_core.specs.ItemLaws.{items_total}
use Rattle.state_core.specs.declared.item.Item.{Item}
use Rattle.graph_core.specs.Dependencies.{IsDependency}
use Rattle.graph_core.specs.ItemGraph.{AreItems, ItemGraph, IsAt, IsGraphOf}
use Rattle.graph_core.specs.WalkLaws.{Leads-items, Leads-places}
use Rattle.lattice_core.specs.PlaceLaws.{Contains-at, at_Contains, at_below, one_item, one_place}
use Rattle.walk_core.specs.Reach.{AreLeading, AreReached}
use Rattle.graph_text.specs.Drawing.{IsAhead, IsDrawnBehind}
use Rattle.graph_text.specs.Near.{AreAhead, AreBehind, is_of}

one_flag : (b : Bool) → Some b ≡ Some true → b ≡ true
one_flag b e = cc

all_marked : (flags : List Bool) (n place : ℕ) → flags ≡ replicate n true → place < n → IsMarked flags place
all_marked flags n place is within =
    subst (λ l. IsMarked l place) (sym is)
    (slice_get-get_or (replicate n true) place true (omega (arith, within, length-replicate {A = Bool} n true)) ∙ ap Some (get_or-replicate n place true true within))

module _ (gate : GateRules) (state : State) (graph : ItemGraph) (is : IsGraphOf gate state graph)
    (whole : AreItems state graph.items) where
  pub held : (x y : Item) → IsDependency gate state x y → Contains graph.items y
  held x y edge = (whole.each y).1 (edge.1.change, edge.1.stands, edge.1.greatest.known)

  -- ---- what leads to what
  pub leads_items : (place end : ℕ) (item other : Item) → IsAt graph.items place item → IsAt graph.items end other
      → LeadsTo (HasEdge graph.ends) place end → LeadsTo (IsDependency gate state) item other
  leads_items place end item other here there leads = (
    leads.0,
    Leads-items (IsDependency gate state) graph.items graph.ends is.ends (λ p. p ≡ end) (λ o. o ≡ other)
        (λ p o at same. one_item graph.items end o other (subst (λ q. IsAt graph.items q o) same at) there) leads.0 place item here leads.1,
  )

  pub leads_places : (place end : ℕ) (item other : Item) → IsAt graph.items place item → IsAt graph.items end other
      → LeadsTo (IsDependency gate state) item other → LeadsTo (HasEdge graph.ends) place end
  leads_places place end item other here there leads = (
    leads.0,
    Leads-places (IsDependency gate state) graph.items graph.ends is.ends is.items.held (λ p. p ≡ end) (λ o. o ≡ other)
        (λ p o at same. one_place items_total graph.items is.items.in_order p end other (subst (IsAt graph.items p) same at) there) leads.0 place item here leads.1,
  )

  -- ---- the items of a change
  module _ (number : ℕ) where
    abbrev own : List Bool
    own = map (is_of number) graph.items

    own_is : (place : ℕ) (item : Item) → IsAt graph.items place item → IsMarked own place → item.change ≡ number
    own_is place item here marked =
        eqb-true item.change number (one_flag (is_of number item) (sym (slice_get-map (is_of number) graph.items place ∙ ap (option_map (is_of number)) here) ∙ marked))

    own_marked : (place : ℕ) (item : Item) → IsAt graph.items place item → item.change ≡ number → IsMarked own place
    own_marked place item here of = slice_get-map (is_of number) graph.items place ∙ ap (option_map (is_of number)) here
        ∙ ap Some (eq-eqb item.change number of)

    own_at : (place : ℕ) → IsMarked own place → (item : Item) × IsAt graph.items place item
    own_at place marked =
        let within : place < length graph.items = omega (arith, slice_get_within own place true marked, length-map graph.items (is_of number)) in
        at_below graph.items place within

    ahead_of : (flags : List Bool) → AreReached graph.ends own flags → (place : ℕ) (item : Item)
        → IsAt graph.items place item → IsMarked flags place ↔ IsAhead gate state (Some number) item
    ahead_of flags reach place item here = (
      λ marked.
          let reached = (reach.each place).0 marked in
          let from = own_at reached.0 reached.1 in (
            from.0,
            (whole.each from.0).0 (Contains-at graph.items reached.0 from.0 from.1),
            own_is reached.0 from.0 from.1 reached.1,
            leads_items reached.0 place from.0 item from.1 here reached.2,
          ),
      λ ahead.
          let from = at_Contains graph.items ahead.0 ((whole.each ahead.0).1 ahead.1) in
          (reach.each place).1 (from.0, own_marked from.0 ahead.0 from.1 ahead.2, leads_places from.0 place ahead.0 item from.1 here ahead.3),
    )

    behind_of : (flags : List Bool) → AreLeading graph.ends own flags → (place : ℕ) (item : Item)
        → IsAt graph.items place item → IsMarked flags place ↔ IsDrawnBehind gate state (Some number) item
    behind_of flags lead place item here = (
      λ marked.
          let leads = (lead.each place).0 marked in (
            leads.0,
            Leads-items (IsDependency gate state) graph.items graph.ends is.ends (IsMarked own)
                (λ o. o.change ≡ number) own_is leads.0 place item here leads.1,
          ),
      λ behind.
          (lead.each place).1 (
            behind.0,
            Leads-places (IsDependency gate state) graph.items graph.ends is.ends is.items.held (IsMarked own)
                (λ o. o.change ≡ number) own_marked behind.0 place item here behind.1,
          ),
    )

  -- ---- with or without a change
  pub ahead_at : (around : Option ℕ) (flags : List Bool) → AreAhead graph around flags → (place : ℕ) (item : Item)
      → IsAt graph.items place item → IsMarked flags place ↔ IsAhead gate state around item
  ahead_at None flags all place item here = (λ marked. tt, λ ahead. all_marked flags (length graph.items) place all (slice_get_within graph.items place item here))
  ahead_at (Some number) flags reach place item here = ahead_of number flags reach place item here

  pub behind_at : (around : Option ℕ) (flags : List Bool) → AreBehind graph around flags → (place : ℕ) (item : Item)
      → IsAt graph.items place item → IsMarked flags place ↔ IsDrawnBehind gate state around item
  behind_at None flags all place item here = (λ marked. tt, λ behind. all_marked flags (length graph.items) place all (slice_get_within graph.items place item here))
  behind_at (Some number) flags lead place item here = behind_of number flags lead place item here
