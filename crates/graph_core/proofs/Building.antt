-- The rows that the code makes are those of the dependencies.
use Rattle.std.proofs.Common.{◌≡◌, ◌<◌, ◌≤◌, ℕ, List, map, length, Contains, Some, refl, sym, ap, ◌∙◌, subst, arith}
use Rattle.std.proofs.Common.{inl, inr}
use Rattle.std.specs.Prelude.{All}
use Rattle.std.specs.declared.cmp.Ordering.{Ordering}
use Rattle.std.specs.declared.cmp.Ordering.TheVariants.{Less, Equal, Greater}
use Rattle.std.specs.Ordering.{nat_cmp, ordering_then, MatchOrdering}
use Rattle.std.specs.FinMap as finite
use Rattle.std.specs.List.{AllZip}
use Rattle.std.specs.List.Sorted.{IsStrictlyIncreasing}
use Rattle.std.proofs.lemmas.Cmp.{ranked}
use Rattle.std.proofs.lemmas.List.Elements.{Contains-get_or}
use Rattle.change_core.specs.Change.{Change}
use Rattle.change_core.specs.Views.{IsKnownSet}
use Rattle.gate_rules.specs.Rules.{GateRules}
use Rattle.state_core.specs.Items.{IsItem}
use Rattle.state_core.specs.declared.item.Item.{Item}
use Rattle.state_core.specs.State.{State}
use Rattle.state_core.specs.Items.{item_cmp}
use Rattle.state_core.specs.Items.{IsCurrentItem}
use Rattle.state_core.specs.GreatestKnown.{greatest_known}
use Rattle.graph_core.specs.Dependencies.{IsTarget, IsDependency}
use Rattle.graph_core.specs.ItemGraph.{IsAt, AreItems, ArePart, AreTargets, AreEnds}
use Rattle.graph_core.specs.Listed.{IsLastOf, ArePlaces}
use Rattle.lattice_core.specs.ZipLaws.{length-AllZip, AllZip-at, AllZip-chain, AllZip-from_places, AllZip-map}
use Rattle.lattice_core.specs.ZipLaws.{All-AllZip}
use Rattle.lattice_core.specs.PlaceLaws.{Contains-at, at_Contains, one_item, sorted_at, earlier_or_same}

pub part_are_items : (gate : GateRules) (state : State) (items : List Item) → ArePart gate state items
    → All (IsItem state) items
part_are_items gate state items are = λ k d within. are.each _ (Contains-get_or items k d within)

-- the current item of a change is an item
current_is_item : (state : State) (item : Item) → IsCurrentItem state item → IsItem state item
current_is_item state item is = (is.change, is.stands, is.greatest.known)

-- all items of a state are a part of them
pub whole_is_part : (gate : GateRules) (state : State) (items : List Item) → AreItems state items
    → ArePart gate state items
whole_is_part gate state items are = record {
  in_order = are.in_order;
  each = λ item. (are.each item).0;
  held = λ item other has edge. (are.each other).1 (current_is_item state other edge.1);
}

-- patch sets of one change come by their numbers
lower_of : (r : Ordering) (a b : ℕ) → MatchOrdering r (a < b) (a ≡ b) (b < a) → r ≡ Less → a < b
lower_of Less a b ranks e = ranks
lower_of Equal a b ranks e = cc
lower_of Greater a b ranks e = cc

then_second : (r s : Ordering) (m n : ℕ) → MatchOrdering r (m < n) (m ≡ n) (n < m) → m ≡ n → ordering_then r s ≡ Less
    → s ≡ Less
then_second Less s m n ranks same e = absurd (omega (arith, ranks, same))
then_second Equal s m n ranks same e = e
then_second Greater s m n ranks same e = absurd (omega (arith, ranks, same))

lower_set : (a b : Item) → a.change ≡ b.change → item_cmp a b ≡ Less → a.set < b.set
lower_set a b same less = lower_of (nat_cmp a.set b.set) a.set b.set (ranked a.set b.set (nat_cmp a.set b.set) refl)
    (then_second (nat_cmp a.change b.change) (nat_cmp a.set b.set) a.change b.change (ranked a.change b.change (nat_cmp a.change b.change) refl) same less)

at_most : (m n : ℕ) → ¬ (n < m) → m ≤ n
at_most m n h = omega (arith, h)

module _ (gate : GateRules) (state : State) (items : List Item) (are : ArePart gate state items) where
  -- the last item of a change that one of the items waits for is its current one
  last_is_current : (item : Item) → Contains items item → (number place : ℕ) (last : IsLastOf items number place)
      → IsTarget gate state item number → IsCurrentItem state last.item
  last_is_current item has number place last target =
      let is = are.each last.item (Contains-at items place last.item last.here) in
      let greatest = greatest_known is.0 last.item.set is.2 in
      let current : Item = record { change = last.item.change; set = greatest.0 } in
      let is_current : IsCurrentItem state current = record { change = is.0; stands = is.1; greatest = greatest.1 } in
      let found = at_Contains items current (are.held item current has (subst (IsTarget gate state item) (sym last.of) target, is_current)) in
      elim (earlier_or_same found.0 place (last.last found.0 current found.1 last.of)) [
        | inl earlier ↦
            let lower = lower_set current last.item refl (sorted_at item_cmp items are.in_order found.0 place current last.item earlier found.1 last.here) in
            let most = greatest.1.greatest last.item.set is.2 in
            absurd (omega (arith, lower, most))
        | inr same ↦ subst (IsCurrentItem state) (one_item items place current last.item (subst (λ p. IsAt items p current) same found.1) last.here) is_current
      ]

  -- and the current one comes last
  current_is_last : (other : Item) (place : ℕ) → IsAt items place other → IsCurrentItem state other
      → IsLastOf items other.change place
  current_is_last other place here current = record {
    item = other;
    here = here;
    of = refl;
    last = λ later item there same. at_most later place (λ behind.
        let is = are.each item (Contains-at items later item there) in
        let e = one_change is.0 current.change (ap (finite.get state) (sym same) ∙ is.1) current.stands in
        let known : IsKnownSet current.change item.set = subst (λ c. IsKnownSet c item.set) e is.2 in
        let most = current.greatest.greatest item.set known in
        let lower = lower_set other item (sym same) (sorted_at item_cmp items are.in_order place later other item behind here there) in
        omega (arith, most, lower));
  } where
    one_change : (a b : Change) → finite.get state other.change ≡ Some a → finite.get state other.change ≡ Some b
        → a ≡ b
    one_change a b p q = cc

  -- the places of the targets' last items are those of the ends of the item's edges
  pub AreEnds-places : (item : Item) → Contains items item → (targets places : List ℕ)
      → AreTargets gate state item targets → ArePlaces items targets places
      → AreEnds (IsDependency gate state) items item places
  AreEnds-places item has targets places wants at = record {
    increasing = at.increasing;
    each = λ place. (
      λ c.
          let found = (at.each place).0 c in
          let target = (wants.each found.0).0 found.1 in
          record {
            other = found.2.item;
            there = found.2.here;
            edge = (subst (IsTarget gate state item) (sym found.2.of) target, last_is_current item has found.0 place found.2 target);
          },
      λ end. (at.each place).1 (end.other.change, (wants.each end.other.change).1 end.edge.0, current_is_last end.other place end.there end.edge.1),
    );
  }

-- lists side by side, and of each pair that the first list has its element
each_of : {X Y : Type 0} (R : X → Y → Type 0) (xs : List X) (ys : List Y) → AllZip R xs ys
    → AllZip (λ x y. Contains xs x × R x y) xs ys
each_of R xs ys all =
    AllZip-from_places (λ x y. Contains xs x × R x y) xs ys (length-AllZip R xs ys all) (λ place x y here there.
    let beside = AllZip-at R xs ys all place x here in
    (Contains-at xs place x here, subst (R x) (one_item ys place beside.0 y beside.1 there) beside.2))

-- ---- the rows of a graph, as slices lend them
module _ {V W : Type 0} (numbers_in : V → List ℕ) (places_in : W → List ℕ) (gate : GateRules) (state : State)
    (items : List Item) (rows : List V) where
  module _ (lent : List Item) (same : lent ≡ items)
      (wants : AllZip (λ item row. AreTargets gate state item (numbers_in row)) lent rows) where
    its_rows : AllZip (λ item row. AreTargets gate state item (numbers_in row)) items rows
    its_rows = subst (λ l. AllZip (λ item row. AreTargets gate state item (numbers_in row)) l rows) same wants

    pub as_many_rows : length rows ≡ length items
    as_many_rows = length-AllZip (λ item row. AreTargets gate state item (numbers_in row)) items rows its_rows

    pub rows_rise : All (λ row. IsStrictlyIncreasing (numbers_in row)) rows
    rows_rise = All-AllZip (λ item row. AreTargets gate state item (numbers_in row))
        (λ row. IsStrictlyIncreasing (numbers_in row)) items rows (λ item row is. is.increasing) its_rows

    pub target_rows : AllZip (AreTargets gate state) items (map numbers_in rows)
    target_rows = AllZip-map (AreTargets gate state) numbers_in items rows its_rows

    pub end_rows : ArePart gate state items → (lent_items : List Item) (lent_rows : List V) (ends : List W)
        → lent_items ≡ items → lent_rows ≡ rows
        → AllZip (λ row places. ArePlaces lent_items (numbers_in row) (places_in places)) lent_rows ends
        → AllZip (AreEnds (IsDependency gate state) items) items (map places_in ends)
    end_rows are lent_items lent_rows ends same_items same_rows at =
        AllZip-map (AreEnds (IsDependency gate state) items) places_in items ends
        (AllZip-chain (λ item row. Contains items item × AreTargets gate state item (numbers_in row)) (λ row places. ArePlaces items (numbers_in row) (places_in places))
        (λ item places. AreEnds (IsDependency gate state) items item (places_in places)) items rows ends
        (λ item row places is its. AreEnds-places gate state items are item is.0 (numbers_in row) (places_in places) is.1 its)
        (each_of (λ item row. AreTargets gate state item (numbers_in row)) items rows its_rows)
        (subst (λ l. AllZip (λ row places. ArePlaces items (numbers_in row) (places_in places)) l ends) same_rows
        (subst (λ l. AllZip (λ row places. ArePlaces l (numbers_in row) (places_in places)) lent_rows ends) same_items at)))
