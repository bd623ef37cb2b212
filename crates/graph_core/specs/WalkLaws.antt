-- Walks over places and walks over items are one: each item has one place, and an edge leads from place to place just
-- where one leads from item to item.
use Rattle.std.specs.Prelude.{◌≡◌, ◌↔◌, ◌<◌, ℕ, Bool, true, IsTrue, List, Option, None, Some, slice_get, Contains}
use Rattle.std.specs.List.{AllZip}
use Rattle.std.specs.List.Sorted.{IsStrictlySortedBy}
use Rattle.std.proofs.Common.{zero, suc, refl, sym, ap, ◌∙◌, subst}
use Rattle.std.proofs.lemmas.Option.{slice_get_within}
use Rattle.walk_core.specs.Walks.{Leads, IsOnCycle}
use Rattle.walk_core.specs.Digraphs.{HasEdge, IsWithin, AreOnCycles, row}
use Rattle.state_core.specs.declared.item.Item.{Item}
use Rattle.state_core.specs.Items.{item_cmp}
use Rattle.graph_core.specs.ItemGraph.{IsAt, EndsAt, AreEnds}
use Rattle.lattice_core.specs.MemberLaws.{Contains-none}
use Rattle.lattice_core.specs.PlaceLaws.{Contains-at, at_Contains, one_item, one_place}
use Rattle.state_core.specs.ItemLaws.{items_total}
use Rattle.lattice_core.specs.ZipLaws.{AllZip-at, AllZip-beside, AllZip-from_places, length-AllZip}

row_of : (found : Option (List ℕ)) (place : ℕ) → Contains (row found) place
    → (ends : List ℕ) × (found ≡ Some ends) × Contains ends place
row_of None place c = absurd (Contains-none place c)
row_of (Some ends) place c = (ends, refl, c)

module _ (E : Item → Item → Type 0) (items : List Item) (graph : List (List ℕ))
    (ends : AllZip (AreEnds E items) items graph) where
  -- an edge from place to place is one from item to item
  pub edge_between : (place end : ℕ) → HasEdge graph place end
      → (item : Item) × IsAt items place item × EndsAt E items item end
  edge_between place end edge =
      let found = row_of (slice_get graph place) end edge in
      let beside = AllZip-beside (AreEnds E items) items graph ends place found.0 found.1 in
      (beside.0, beside.1, (beside.2.each end).0 found.2)

  pub edge_at : (place end : ℕ) (item other : Item) → IsAt items place item → IsAt items end other → E item other
      → HasEdge graph place end
  edge_at place end item other here there edge =
      let beside = AllZip-at (AreEnds E items) items graph ends place item here in
      subst (λ found. Contains (row found) end) (sym beside.1)
      ((beside.2.each end).1 (record { other = other; there = there; edge = edge }))

  pub ends_within : IsWithin graph
  ends_within place end edge =
      let between = edge_between place end edge in
      subst (λ n. end < n) (sym (length-AllZip (AreEnds E items) items graph ends))
      (slice_get_within items end between.2.other between.2.there)

  -- a walk over places is one over items
  pub Leads-items : (Marked : ℕ → Type 0) (P : Item → Type 0)
      → ((place : ℕ) (item : Item) → IsAt items place item → Marked place → P item)
      → (n place : ℕ) (item : Item) → IsAt items place item → Leads (HasEdge graph) Marked n place → Leads E P n item
  Leads-items Marked P gives zero place item here leads = gives place item here leads
  Leads-items Marked P gives (suc n) place item here leads =
      let between = edge_between place leads.0 leads.1 in (
        between.2.other,
        subst (λ x. E x between.2.other) (one_item items place between.0 item between.1 here) between.2.edge,
        Leads-items Marked P gives n leads.0 between.2.other between.2.there leads.2,
      )

  module _ (held : (item other : Item) → Contains items item → E item other → Contains items other) where
    -- and conversely, if the ends of all edges are among the items
    pub Leads-places : (Marked : ℕ → Type 0) (P : Item → Type 0)
        → ((place : ℕ) (item : Item) → IsAt items place item → P item → Marked place)
        → (n place : ℕ) (item : Item) → IsAt items place item → Leads E P n item → Leads (HasEdge graph) Marked n place
    Leads-places Marked P gives zero place item here leads = gives place item here leads
    Leads-places Marked P gives (suc n) place item here leads =
        let end = at_Contains items leads.0 (held item leads.0 (Contains-at items place item here) leads.1) in
        (end.0, edge_at place end.0 item leads.0 here end.1 leads.1, Leads-places Marked P gives n end.0 leads.0 end.1 leads.2)

    module _ (sorted : IsStrictlySortedBy item_cmp items) where
      pub IsOnCycle-at : (place : ℕ) (item : Item) → IsAt items place item
          → IsOnCycle (HasEdge graph) place ↔ IsOnCycle E item
      IsOnCycle-at place item here = (
        λ cycle. (
          cycle.0,
          Leads-items (λ end. end ≡ place) (λ other. other ≡ item)
              (λ end other there same. one_item items place other item (subst (λ p. IsAt items p other) same there) here) (suc cycle.0) place item here cycle.1,
        ),
        λ cycle. (
          cycle.0,
          Leads-places (λ end. end ≡ place) (λ other. other ≡ item)
              (λ end other there same. one_place items_total items sorted end place item (subst (λ i. IsAt items end i) same there) here) (suc cycle.0) place item here cycle.1,
        ),
      )

      pub flags_of_cycles : (flags : List Bool) → AreOnCycles graph flags
          → AllZip (λ item flag. IsTrue flag ↔ IsOnCycle E item) items flags
      flags_of_cycles flags are =
          AllZip-from_places (λ item flag. IsTrue flag ↔ IsOnCycle E item) items flags
          (are.nodes ∙ length-AllZip (AreEnds E items) items graph ends)
          (λ place item flag here there. (
            λ yes. (IsOnCycle-at place item here).0 ((are.each place).0 (there ∙ ap Some yes)),
            λ cycle. one_flag flag (sym there ∙ (are.each place).1 ((IsOnCycle-at place item here).1 cycle)),
          )) where
            one_flag : (flag : Bool) → Some flag ≡ Some true → flag ≡ true
            one_flag flag e = cc
