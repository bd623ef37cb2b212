-- A search back and a search forth find a component.
use Rattle.std.proofs.Common.{◌≡◌, ◌⊎◌, inl, inr, ℕ, List, refl, sym, ◌∙◌}
use Rattle.std.specs.List.{Contains}
use Rattle.walk_core.specs.Walks.{IsReachedOver, Reaches-trans}
use Rattle.walk_core.specs.Digraphs.{HasEdge}
use Rattle.walk_core.specs.Components.{place_of, AreConnected, IsStep, HasSpread, AreReleased, IsMember, HasComponent}
use Rattle.walk_core.specs.Components.{AreSettled}
use Rattle.walk_core.specs.declared.component.Place.{Place}
use Rattle.walk_core.specs.declared.component.Place.TheVariants.{Waiting, Behind, OnCycle, OffCycle}
use Rattle.walk_core.specs.declared.component.Way.TheVariants.{Back, Forth}
use Rattle.walk_core.proofs.Turned.{Walk-turned, Reaches-turned, Reaches-walk, Walk-reaches}
use Rattle.walk_core.proofs.SpreadReaches.{reaches_finds}

module _ (graph : List (List ℕ)) (node : ℕ) (start : List Place) (settled : AreSettled graph start)
    (waits : place_of start node ≡ Waiting) where
  -- what is connected with a waiting node waits
  waiting_at : (x : ℕ) (place : Place) → AreConnected graph node x → place_of start x ≡ place
      → place_of start x ≡ Waiting
  waiting_at x Waiting c is = is
  waiting_at x Behind c is = absurd (settled.sure x is)
  waiting_at x OnCycle c is =
      let on : place_of start node ≡ OnCycle = settled.whole x node is (record { forth = c.back; back = c.forth }) in
      let no_place : Waiting ≡ OnCycle = sym waits ∙ on in
      cc
  waiting_at x OffCycle c is = absurd (settled.off x is (Reaches-trans (HasEdge graph) x node x c.back c.forth))

  pub connected_waits : (x : ℕ) → AreConnected graph node x → place_of start x ≡ Waiting
  connected_waits x c = waiting_at x (place_of start x) c refl

  module _ (back_places : List Place) (behind : List ℕ)
      (back : HasSpread (IsStep graph Back) Waiting Behind node start back_places behind) where
    connected_behind : (x : ℕ) → AreConnected graph node x → Contains behind x
    connected_behind x c = reaches_finds (IsStep graph Back) Waiting Behind node start back_places behind back x
        (Reaches-turned (λ a b. HasEdge graph b a) x node c.back)
        (λ y m reached walk. connected_waits y (record {
          forth = Reaches-walk (HasEdge graph) m node x y c.forth (Walk-turned (HasEdge graph) m y x walk);
          back = Reaches-turned (HasEdge graph) node y reached;
        }))

    module _ (forth_places : List Place) (members : List ℕ)
        (forth : HasSpread (IsStep graph Forth) Behind OnCycle node back_places forth_places members) where
      pub connected_found : (x : ℕ) → AreConnected graph node x → Contains members x
      connected_found x c =
          reaches_finds (IsStep graph Forth) Behind OnCycle node back_places forth_places members forth x c.forth
          (λ y m reached walk. (back.moved y (connected_behind y (record {
            forth = reached;
            back = Walk-reaches (HasEdge graph) m y x node walk c.back;
          }))).is)

      behind_reaches : (x : ℕ) → place_of back_places x ≡ Behind → IsReachedOver (HasEdge graph) x node
      behind_reaches x is = elim (back.each x) [
        | inl same ↦ absurd (settled.sure x (sym same ∙ is))
        | inr here ↦ Reaches-turned (HasEdge graph) node x (back.moved x here).reached
      ]

      pub found_connected : (x : ℕ) → Contains members x → AreConnected graph node x
      found_connected x here = let found = forth.moved x here in record {
        forth = found.reached;
        back = behind_reaches x found.was;
      }

      module _ (end : List Place) (released : AreReleased behind forth_places end) where
        connected_on : (x : ℕ) → AreConnected graph node x → place_of end x ≡ OnCycle
        connected_on x c =
            let found = (forth.moved x (connected_found x c)).is in
            elim (released.each x) [
              | inl same ↦ same ∙ found
              | inr freed ↦ let no_place : OnCycle ≡ Behind = sym found ∙ freed.was in cc
            ]

        released_waits : (x : ℕ) → Contains behind x → place_of forth_places x ≡ place_of back_places x
            → place_of end x ≡ place_of start x
        released_waits x here same =
            let found = back.moved x here in
            elim (released.each x) [
              | inl kept ↦ absurd (released.all x here (kept ∙ same ∙ found.is))
              | inr freed ↦ freed.is ∙ sym found.was
            ]

        kept_stays : (x : ℕ) → place_of back_places x ≡ place_of start x
            → place_of forth_places x ≡ place_of back_places x → place_of end x ≡ place_of start x
        kept_stays x first next = elim (released.each x) [
          | inl kept ↦ kept ∙ next ∙ first
          | inr freed ↦ absurd (settled.sure x (sym first ∙ sym next ∙ freed.was))
        ]

        each_member : (x : ℕ) → (place_of end x ≡ place_of start x) ⊎ IsMember graph node start end x
        each_member x = elim (forth.each x) [
          | inl next ↦ elim (back.each x) [
            | inl first ↦ inl (kept_stays x first next)
            | inr here ↦ inl (released_waits x here next)
          ]
          | inr here ↦
              let c = found_connected x here in
              inr (record { connected = c; was = connected_waits x c; is = connected_on x c })
        ]

        pub has_component : HasComponent graph node start end
        has_component = record {
          size = released.size ∙ forth.size ∙ back.size;
          each = each_member;
          all = connected_on;
        }
