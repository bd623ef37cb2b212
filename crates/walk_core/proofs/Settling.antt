-- What is known of nodes stays right when a component is found.
use Rattle.std.proofs.Common.{◌≡◌, ◌≢◌, ◌⊎◌, inl, inr, ◌<◌, ℕ, List, sym, ◌∙◌, subst, length, set}
use Rattle.std.proofs.lemmas.List.{length-set}
use Rattle.walk_core.specs.Walks.{Reaches-trans, IsOnCycle}
use Rattle.walk_core.specs.Digraphs.{HasEdge}
use Rattle.walk_core.specs.Components.{place_of, AreConnected, HasComponent, AreSettled}
use Rattle.walk_core.specs.declared.component.Place.{Place}
use Rattle.walk_core.specs.declared.component.Place.TheVariants.{Waiting, Behind, OnCycle, OffCycle}
use Rattle.walk_core.proofs.Places.{place_set, place_within}

connected-trans : (graph : List (List ℕ)) (x y z : ℕ) → AreConnected graph x y → AreConnected graph y z
    → AreConnected graph x z
connected-trans graph x y z p q = record {
  forth = Reaches-trans (HasEdge graph) x y z p.forth q.forth;
  back = Reaches-trans (HasEdge graph) z y x q.back p.back;
}

module _ (graph : List (List ℕ)) (node : ℕ) (start end : List Place) (settled : AreSettled graph start)
    (waits : place_of start node ≡ Waiting) (component : HasComponent graph node start end) where
  sure_after : (x : ℕ) → place_of end x ≢ Behind
  sure_after x is = elim (component.each x) [
    | inl same ↦ settled.sure x (sym same ∙ is)
    | inr member ↦ let no_place : OnCycle ≡ Behind = sym member.is ∙ is in cc
  ]

  on_after : (x : ℕ) → place_of end x ≡ OnCycle → IsOnCycle (HasEdge graph) x
  on_after x is = elim (component.each x) [
    | inl same ↦ settled.on x (sym same ∙ is)
    | inr member ↦ Reaches-trans (HasEdge graph) x node x member.connected.back member.connected.forth
  ]

  off_after : (x : ℕ) → place_of end x ≡ OffCycle → ¬ IsOnCycle (HasEdge graph) x
  off_after x is = elim (component.each x) [
    | inl same ↦ settled.off x (sym same ∙ is)
    | inr member ↦ let no_place : OnCycle ≡ OffCycle = sym member.is ∙ is in absurd cc
  ]

  -- a node that was known to be on a cycle is so still
  stays_on : (x : ℕ) → place_of start x ≡ OnCycle → place_of end x ≡ OnCycle
  stays_on x is = elim (component.each x) [
    | inl same ↦ same ∙ is
    | inr member ↦ member.is
  ]

  whole_after : (x y : ℕ) → place_of end x ≡ OnCycle → AreConnected graph x y → place_of end y ≡ OnCycle
  whole_after x y is connected = elim (component.each x) [
    | inl same ↦ stays_on y (settled.whole x y (sym same ∙ is) connected)
    | inr member ↦ component.all y (connected-trans graph node x y member.connected connected)
  ]

  waited : (x : ℕ) → place_of end x ≡ Waiting → place_of start x ≡ Waiting
  waited x is = elim (component.each x) [
    | inl same ↦ sym same ∙ is
    | inr member ↦ member.was
  ]

  -- the node is on a cycle, and was found
  pub settled_on : AreSettled graph end
  settled_on = record {
    size = component.size ∙ settled.size;
    sure = sure_after;
    on = on_after;
    off = off_after;
    whole = whole_after;
  }

  -- the node is on no cycle: it waits still
  module _ (waiting : place_of end node ≡ Waiting) where
    node_off : ¬ IsOnCycle (HasEdge graph) node
    node_off cycle =
        let found : place_of end node ≡ OnCycle = component.all node (record { forth = cycle; back = cycle }) in
        let no_place : OnCycle ≡ Waiting = sym found ∙ waiting in
        cc

    pub node_within : node < length end
    node_within = place_within end node Waiting (λ same. cc (same)) waiting

    at_node : (x : ℕ) → ((x ≡ node) × (place_of (set end node OffCycle) x ≡ OffCycle))
        ⊎ ((x ≢ node) × (place_of (set end node OffCycle) x ≡ place_of end x))
    at_node = place_set end node OffCycle node_within

    sure_off : (x : ℕ) → place_of (set end node OffCycle) x ≢ Behind
    sure_off x is = elim (at_node x) [
      | inl at ↦ let no_place : OffCycle ≡ Behind = sym at.1 ∙ is in cc
      | inr other ↦ sure_after x (sym other.1 ∙ is)
    ]

    -- what is on a cycle is so before and after, since the node itself isn't
    on_before : (x : ℕ) → place_of (set end node OffCycle) x ≡ OnCycle → place_of end x ≡ OnCycle
    on_before x is = elim (at_node x) [
      | inl at ↦ let no_place : OffCycle ≡ OnCycle = sym at.1 ∙ is in cc
      | inr other ↦ sym other.1 ∙ is
    ]

    on_still : (x : ℕ) → place_of end x ≡ OnCycle → place_of (set end node OffCycle) x ≡ OnCycle
    on_still x is = elim (at_node x) [
      | inl at ↦ let no_place : OnCycle ≡ Waiting = sym is ∙ subst (λ y. place_of end y ≡ Waiting) (sym at.0) waiting in cc
      | inr other ↦ other.1 ∙ is
    ]

    off_off : (x : ℕ) → place_of (set end node OffCycle) x ≡ OffCycle → ¬ IsOnCycle (HasEdge graph) x
    off_off x is = elim (at_node x) [
      | inl at ↦ subst (λ y. ¬ IsOnCycle (HasEdge graph) y) (sym at.0) node_off
      | inr other ↦ off_after x (sym other.1 ∙ is)
    ]

    pub settled_off : AreSettled graph (set end node OffCycle)
    settled_off = record {
      size = length-set end node OffCycle ∙ component.size ∙ settled.size;
      sure = sure_off;
      on = λ x is. on_after x (on_before x is);
      off = off_off;
      whole = λ x y is connected. on_still y (whole_after x y (on_before x is) connected);
    }
