-- The items that are marked on both sides are the others of the cycle.
use Rattle.std.proofs.Common.{◌≡◌, ◌≢◌, ◌<◌, ◌≤◌, ◌+◌, ℕ, Bool, true, false, List, [], ◌∷◌, ◌++◌, length, map, Contains}
use Rattle.std.proofs.Common.{Some, zero, suc, refl, sym, ap, ◌∙◌, subst, arith, inl, inr, eq-eqb}
use Rattle.std.specs.Prelude.{option_map, ◌&&◌, ◌==◌}
use Rattle.std.specs.List.Sorted.{IsStrictlySortedBy}
use Rattle.std.proofs.lemmas.Bool.{eqb-true}
use Rattle.std.proofs.lemmas.List.{length-map}
use Rattle.std.proofs.lemmas.List.Elements.{Contains-push, Contains-push_cases, Contains-append_left}
use Rattle.std.proofs.lemmas.Option.{slice_get-map, slice_get_within}
use Rattle.walk_core.specs.Walks.{Walk, IsReachedOver}
use Rattle.walk_core.specs.Digraphs.{IsMarked}
use Rattle.gate_rules.specs.Rules.{GateRules}
use Rattle.state_core.specs.State.{State}
use Rattle.state_core.specs.Items.{IsItem, item_cmp}
use Rattle.state_core.specs.ItemLaws.{items_total}
use Rattle.state_core.specs.declared.item.Item.{Item}
use Rattle.graph_core.specs.Dependencies.{IsDependency}
use Rattle.graph_core.specs.ItemGraph.{AreItems, ItemGraph, IsAt, IsGraphOf}
use Rattle.graph_core.specs.WalkLaws.{Leads-items, Leads-places}
use Rattle.lattice_core.specs.MemberLaws.{Contains-none, sorted_push}
use Rattle.lattice_core.specs.PlaceLaws.{at_Contains, at_below, one_item, one_place, sorted_at, earlier_or_same}
use Rattle.walk_core.specs.Reach.{AreLeading, AreReached}
use Rattle.why_text.specs.Cycle.{AreOnItsCycle, AreTaken, IsOtherPlace, IsTaken, is_item}

-- ---- the items of marked places, place after place
sorted_none : IsStrictlySortedBy item_cmp []
unfolding IsStrictlySortedBy
sorted_none = tt

at_last : (place count : ℕ) → place < count + 1 → place ≤ count
at_last place count less = omega (arith, less)

module _ (items : List Item) (itself behind ahead : List Bool) where
  pub none_taken : (others : List Item) → others ≡ [] → AreTaken items itself behind ahead 0 others
  none_taken others none = record {
    in_order = subst (IsStrictlySortedBy item_cmp) (sym none) sorted_none;
    each = λ other. (λ has. absurd (Contains-none other (subst (λ l. Contains l other) none has)), λ taken. absurd (omega (arith, taken.before)));
  }

  module _ (sorted : IsStrictlySortedBy item_cmp items) (count : ℕ) (others : List Item)
      (are : AreTaken items itself behind ahead count others) where
    later : (other : Item) → IsTaken items itself behind ahead count other
        → IsTaken items itself behind ahead (count + 1) other
    later other taken = record {
      place = taken.place;
      before = omega (arith, taken.before);
      here = taken.here;
      is_other = taken.is_other;
    }

    earlier : (other : Item) (taken : IsTaken items itself behind ahead (count + 1) other) → taken.place < count
        → IsTaken items itself behind ahead count other
    earlier other taken less =
        record { place = taken.place; before = less; here = taken.here; is_other = taken.is_other }

    pub taken_less : ¬ IsOtherPlace itself behind ahead count → AreTaken items itself behind ahead (count + 1) others
    taken_less not = record {
      in_order = are.in_order;
      each = λ other. (
        λ has. later other ((are.each other).0 has),
        λ taken. elim (earlier_or_same taken.place count (at_last taken.place count taken.before)) [
          | inl less ↦ (are.each other).1 (earlier other taken less)
          | inr same ↦ absurd (not (subst (IsOtherPlace itself behind ahead) same taken.is_other))
        ],
      );
    }

    pub taken_more : (next : Item) → IsAt items count next → IsOtherPlace itself behind ahead count → (pushed : List Item)
        → pushed ≡ others ++ next ∷ [] → AreTaken items itself behind ahead (count + 1) pushed
    taken_more next here is pushed pushed_is =
        subst (AreTaken items itself behind ahead (count + 1)) (sym pushed_is) (record {
          in_order = sorted_push item_cmp others next are.in_order (λ item has.
              let taken = (are.each item).0 has in sorted_at item_cmp items sorted taken.place count item next taken.before taken.here here);
          each = λ other. (
            λ has. elim (Contains-push_cases others next other has) [
              | inl before ↦ later other ((are.each other).0 before)
              | inr same ↦ subst (IsTaken items itself behind ahead (count + 1)) same
                  (record { place = count; before = omega arith; here = here; is_other = is })
            ],
            λ taken. elim (earlier_or_same taken.place count (at_last taken.place count taken.before)) [
              | inl less ↦ Contains-append_left others (next ∷ []) other ((are.each other).1 (earlier other taken less))
              | inr same ↦ subst (Contains (others ++ next ∷ []))
                  (one_item items count next other here (subst (λ p. IsAt items p other) same taken.here))
                  (Contains-push others next)
            ],
          );
        })

-- ---- what marks say of walks
both_true : (a b : Bool) → (a && b) ≡ true → (a ≡ true) × (b ≡ true)
both_true true b e = (refl, e)
both_true false b e = cc

same_item : (item other : Item) → is_item item other ≡ true → other ≡ item
same_item item other e =
    let parts = both_true (other.change == item.change) (other.set == item.set) e in
    let change = eqb-true other.change item.change parts.0 in
    let set = eqb-true other.set item.set parts.1 in
    ap (λ n. record { change = n; set = other.set }) change ∙ ap (λ n. record { change = item.change; set = n }) set

pub itself_is : (item : Item) → is_item item item ≡ true
itself_is item = (λ i. (eq-eqb item.change item.change refl i) && (eq-eqb item.set item.set refl i))

one_flag : (b : Bool) → Some b ≡ Some true → b ≡ true
one_flag b e = cc

module _ (items : List Item) (item : Item) where
  marked_is : (place : ℕ) (other : Item) → IsAt items place other → IsMarked (map (is_item item) items) place
      → other ≡ item
  marked_is place other here marked =
      same_item item other (one_flag (is_item item other) (sym (slice_get-map (is_item item) items place ∙ ap (option_map (is_item item)) here) ∙ marked))

  is_marked : (place : ℕ) → IsAt items place item → IsMarked (map (is_item item) items) place
  is_marked place here =
      slice_get-map (is_item item) items place ∙ ap (option_map (is_item item)) here ∙ ap Some (itself_is item)

  marked_place : (place : ℕ) → IsMarked (map (is_item item) items) place → IsAt items place item
  marked_place place marked =
      let within : place < length items = omega (arith, slice_get_within (map (is_item item) items) place true marked, length-map items (is_item item)) in
      let at = at_below items place within in
      subst (IsAt items place) (marked_is place at.0 at.1 marked) at.1

walk_on : {N : Type 0} (E : N → N → Type 0) (n : ℕ) (x y : N) → Walk E n x y → x ≢ y → IsReachedOver E x y
walk_on E zero x y walk differs = absurd (differs walk)
walk_on E (suc n) x y walk differs = (n, walk)

last_edge : {N : Type 0} (E : N → N → Type 0) (n : ℕ) (x y : N) → Walk E (suc n) x y → (z : N) × E z y
last_edge E zero x y walk = (x, subst (E x) walk.2 walk.1)
last_edge E (suc n) x y walk = last_edge E n walk.0 y walk.2

module _ (gate : GateRules) (state : State) (graph : ItemGraph) (is : IsGraphOf gate state graph)
    (whole : AreItems state graph.items) (item : Item) (there : IsItem state item)
    (behind ahead : List Bool) (lead : AreLeading graph.ends (map (is_item item) graph.items) behind)
    (reach : AreReached graph.ends (map (is_item item) graph.items) ahead) where
  held : (x y : Item) → IsDependency gate state x y → Contains graph.items y
  held x y edge = (whole.each y).1 (edge.1.change, edge.1.stands, edge.1.greatest.known)

  behind_is : (place : ℕ) (other : Item) → IsAt graph.items place other → other ≢ item → IsMarked behind place
      → IsReachedOver (IsDependency gate state) other item
  behind_is place other here differs marked =
      let leads = (lead.each place).0 marked in
      walk_on (IsDependency gate state) leads.0 other item
      (Leads-items (IsDependency gate state) graph.items graph.ends is.ends (IsMarked (map (is_item item) graph.items)) (λ x. x ≡ item) (marked_is graph.items item) leads.0 place other here leads.1) differs

  ahead_is : (place : ℕ) (other : Item) → IsAt graph.items place other → other ≢ item → IsMarked ahead place
      → IsReachedOver (IsDependency gate state) item other
  ahead_is place other here differs marked =
      let reached = (reach.each place).0 marked in
      walk_on (IsDependency gate state) reached.2.0 item other
      (Leads-items (IsDependency gate state) graph.items graph.ends is.ends (λ p. p ≡ place) (λ x. x ≡ other)
      (λ p x at same. one_item graph.items place x other (subst (λ q. IsAt graph.items q x) same at) here)
      reached.2.0 reached.0 item (marked_place graph.items item reached.0 reached.1) reached.2.1) (λ same. differs
      (sym same))

  pub others_are : (others : List Item)
      → AreTaken graph.items (map (is_item item) graph.items) behind ahead (length graph.items) others
      → AreOnItsCycle gate state item others
  others_are others are = record {
    in_order = are.in_order;
    each = λ other. (
      λ has.
          let taken = (are.each other).0 has in
          let differs : other ≢ item = λ same. taken.is_other.not_itself (is_marked graph.items item taken.place (subst (IsAt graph.items taken.place) same taken.here)) in
          record {
            differs = differs;
            ahead = ahead_is taken.place other taken.here differs taken.is_other.is_ahead;
            behind = behind_is taken.place other taken.here differs taken.is_other.is_behind;
          },
      λ cycle.
          let edge = last_edge (IsDependency gate state) cycle.ahead.0 item other cycle.ahead.1 in
          let at = at_Contains graph.items other (held edge.0 other edge.1) in
          let from = at_Contains graph.items item ((whole.each item).1 there) in
          (are.each other).1 (record {
            place = at.0;
            before = slice_get_within graph.items at.0 other at.1;
            here = at.1;
            is_other = record {
              not_itself = λ marked. cycle.differs (marked_is graph.items item at.0 other at.1 marked);
              is_behind = (lead.each at.0).1 (
                suc cycle.behind.0,
                Leads-places (IsDependency gate state) graph.items graph.ends is.ends is.items.held
                    (IsMarked (map (is_item item) graph.items)) (λ x. x ≡ item)
                    (λ p x here same. is_marked graph.items item p (subst (IsAt graph.items p) same here))
                    (suc cycle.behind.0) at.0 other at.1 cycle.behind.1,
              );
              is_ahead = (reach.each at.0).1 (
                from.0,
                is_marked graph.items item from.0 from.1,
                (
                  suc cycle.ahead.0,
                  Leads-places (IsDependency gate state) graph.items graph.ends is.ends is.items.held (λ p. p ≡ at.0)
                      (λ x. x ≡ other)
                      (λ p x here same. one_place items_total graph.items is.items.in_order p at.0 other (subst (IsAt graph.items p) same here) at.1) (suc cycle.ahead.0) from.0 item from.1 cycle.ahead.1,
                ),
              );
            };
          }),
    );
  }
