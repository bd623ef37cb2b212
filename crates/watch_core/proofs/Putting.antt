-- What becomes of the lists of verdicts where an item is put or taken out.
use Rattle.std.proofs.Common.{◌≡◌, ◌<◌, ℕ, List, [], ◌∷◌, Contains, Err, Ok, Result, Some, length, map, set, sym, ap}
use Rattle.std.proofs.Common.{◌∙◌, subst, arith, inl, inr}
use Rattle.std.specs.Prelude.{OnOk, option_map, slice_get}
use Rattle.std.specs.List.{remove}
use Rattle.std.specs.List.Sorted.{IsStrictlySortedBy}
use Rattle.std.proofs.lemmas.List.{length-map, map-set, set-get_or}
use Rattle.std.proofs.lemmas.Option.{get_or_from_slice_get, slice_get-map, slice_get_within}
use Rattle.lattice_core.specs.MemberLaws.{Contains-none}
use Rattle.lattice_core.specs.PlaceLaws.{Contains-at, at_below, one_item}
use Rattle.walk_core.specs.Ranks.{rank_cmp}
use Rattle.state_core.specs.declared.item.Item.{Item}
use Rattle.state_core.specs.Items.{item_cmp}
use Rattle.ready_core.specs.declared.ranked.ItemRank.{ItemRank}
use Rattle.ready_core.specs.declared.verdicts.Left.{Left}
use Rattle.ready_core.specs.ItemRanks.{to_rank}
use Rattle.ready_core.specs.Verdicts.{items_out}
use Rattle.ready_core.specs.Verdicts.{IsOutAt}
use Rattle.watch_core.specs.Placed.{ShareNoItem, AreLists, AreReady, HasNew, left_item, node_of}
use Rattle.watch_core.proofs.Exchange.{HasNew-none, apart_on, by_item_total, by_rank_total, exchanged_remove}
use Rattle.watch_core.proofs.Exchange.{exchanged_set, one_each_none, one_each_on, one_each_sorted}
use Rattle.watch_core.proofs.Placing.{map-remove, sorted_of_map, sorted_taken}

-- two facts of one outcome
pub both_ok : {T E : Type 0} (r : Result T E) (P Q R : Type 0) → (P → Q → R) → OnOk r P → OnOk r Q → OnOk r R
both_ok (Ok value) P Q R gives p q = gives p q
both_ok (Err error) P Q R gives p q = p

-- what is at a place of a list that is made of another
of_map_at : {X Y : Type 0} (f : X → Y) (xs : List X) (place : ℕ) (y : Y) → slice_get (map f xs) place ≡ Some y
    → (x : X) × (slice_get xs place ≡ Some x) × (f x ≡ y)
of_map_at f xs place y at =
    let within = slice_get_within (map f xs) place y at in
    let x = at_below xs place (omega (arith, within, length-map xs f)) in
    (x.0, x.1, one_item (map f xs) place (f x.0) y (slice_get-map f xs place ∙ ap (option_map f) x.1) at)

set_same : {X : Type 0} (xs : List X) (place : ℕ) (x : X) → slice_get xs place ≡ Some x → set xs place x ≡ xs
set_same xs place x at = ap (set xs place) (sym (get_or_from_slice_get xs place x x at)) ∙ set-get_or xs place x

pub apart_first : {X Y : Type 0} (of : X → Item) (by : Y → Item) (ys : List Y) → ShareNoItem of by [] ys
apart_first of by ys = record { none = λ x y has also same. Contains-none x has }

pub apart_second : {X Y : Type 0} (of : X → Item) (by : Y → Item) (xs : List X) → ShareNoItem of by xs []
apart_second of by xs = record { none = λ x y has also same. Contains-none y also }

nothing : {X : Type 0} (P : X → Type 0) (x : X) → Contains [] x → ¬ P x
nothing P x has p = Contains-none x has

-- an item that is in no list is changed in none
pub HasNew-absent : {X : Type 0} (of : X → Item) (item : Item) (xs : List X)
    → ((x : X) → Contains xs x → ¬ (of x ≡ item)) → HasNew of (λ other. other ≡ item) [] xs xs
HasNew-absent of item xs absent =
    HasNew-none of (λ other. other ≡ item) [] xs (λ x. nothing (λ y. of y ≡ item) x) absent

-- an item that was taken out is in the list no more
pub none_left : {X : Type 0} (of : X → Item) (item : Item) (xs ys : List X) → HasNew of (λ other. other ≡ item) [] xs ys
    → (x : X) → Contains ys x → ¬ (of x ≡ item)
none_left of item xs ys are x has same = elim ((are.each x).0 has) [
  | inl found ↦ Contains-none x found.1
  | inr kept ↦ kept.0 same
]

-- ---- ready items of which one is taken out
module _ (ready : List Item) (ranks : List ItemRank) (are : AreReady ready ranks) (place : ℕ) (item : Item)
    (at : slice_get ready place ≡ Some item) where
  there : (rank : ItemRank) × (slice_get ranks place ≡ Some rank) × (node_of rank ≡ item)
  there = of_map_at node_of ranks place item (sym (ap (λ (l : List Item). slice_get l place) are.nodes) ∙ at)

  pub rank_taken : HasNew node_of (λ other. other ≡ item) [] ranks (remove ranks place)
  rank_taken = exchanged_remove node_of by_rank_total ranks
      (sorted_of_map to_rank (rank_cmp item_cmp) ranks are.rising) are.one_each place there.0 there.1 item there.2

  pub ready_taken : AreReady (remove ready place) (remove ranks place)
  ready_taken = record {
    nodes = ap (λ (l : List Item). remove l place) are.nodes ∙ sym (map-remove node_of ranks place);
    rising = sorted_taken to_rank (rank_cmp item_cmp) ranks there.0 place are.rising there.1;
    one_each = one_each_on node_of (λ other. other ≡ item) [] ranks (remove ranks place) rank_taken
        (one_each_none node_of) are.one_each;
  }

-- ---- an item that is left out
module _ (ready : List Item) (ranks : List ItemRank) (out : List Left) (are : AreLists ready ranks out) (place : ℕ)
    (item : Item) (is : IsOutAt out item place) where
  pub rank_absent : HasNew node_of (λ other. other ≡ item) [] ranks ranks
  rank_absent = HasNew-absent node_of item ranks
      (λ rank has same. are.apart.none rank is.left has (Contains-at out place is.left is.here) (same ∙ sym is.of))

  pub left_within : place < length out
  left_within = slice_get_within out place is.left is.here

  pub left_taken : HasNew left_item (λ other. other ≡ item) [] out (remove out place)
  left_taken = exchanged_remove left_item by_item_total out (sorted_of_map left_item item_cmp out are.out_in_order)
      (one_each_sorted left_item out are.out_in_order) place is.left is.here item is.of

  pub lists_taken : AreLists ready ranks (remove out place)
  lists_taken = record {
    ranked = are.ranked;
    out_in_order = sorted_taken left_item item_cmp out is.left place are.out_in_order is.here;
    apart = apart_on node_of left_item (λ other. other ≡ item) [] ranks ranks [] out
        (remove out place) rank_absent left_taken (apart_second node_of left_item []) are.apart;
  }

  module _ (left : Left) (of : left.item ≡ item) where
    pub left_set : HasNew left_item (λ other. other ≡ item) (left ∷ []) out (set out place left)
    left_set = exchanged_set left_item by_item_total out (sorted_of_map left_item item_cmp out are.out_in_order)
        (one_each_sorted left_item out are.out_in_order) place is.left is.here item is.of left of

    same_items : items_out (set out place left) ≡ items_out out
    same_items = map-set left_item out place left ∙ set_same (items_out out) place left.item
        (slice_get-map left_item out place ∙ ap (option_map left_item) is.here ∙ ap Some (is.of ∙ sym of))

    pub lists_set : AreLists ready ranks (set out place left)
    lists_set = record {
      ranked = are.ranked;
      out_in_order = subst (IsStrictlySortedBy item_cmp) (sym same_items) are.out_in_order;
      apart = apart_on node_of left_item (λ other. other ≡ item) [] ranks ranks (left ∷ []) out
          (set out place left) rank_absent left_set (apart_first node_of left_item (left ∷ [])) are.apart;
    }

-- ---- lists of which one is changed at an item that isn't in the other
pub lists_ranked : (ready ready_new : List Item) (ranks ranks_new : List ItemRank) (out out_new : List Left)
    (item : Item) (found : List ItemRank) (left : List Left) → AreLists ready ranks out
    → AreReady ready_new ranks_new → IsStrictlySortedBy item_cmp (items_out out_new)
    → HasNew node_of (λ other. other ≡ item) found ranks ranks_new
    → HasNew left_item (λ other. other ≡ item) left out out_new
    → ShareNoItem node_of left_item found left → AreLists ready_new ranks_new out_new
lists_ranked ready ready_new ranks ranks_new out out_new item found left are ranked in_order of_ranks of_out apart =
    record {
      ranked = ranked;
      out_in_order = in_order;
      apart = apart_on node_of left_item
          (λ other. other ≡ item) found ranks ranks_new left out out_new of_ranks of_out apart are.apart;
    }
