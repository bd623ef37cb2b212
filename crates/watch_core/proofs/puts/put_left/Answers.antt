use Rattle.std.proofs.Common.{◌≡◌, [], ◌∷◌, Contains, List, arith, refl, subst, sym}
use Rattle.std.specs.List.Sorted.{IsStrictlySortedBy}
use Rattle.state_core.specs.Items.{item_cmp}
use Rattle.ready_core.specs.declared.verdicts.Left.{Left}
use Rattle.ready_core.specs.Verdicts.{IsOutAt, items_out}
use Rattle.watch_core.specs.Placed.{AreLists, HasNew, left_item, node_of}
use Rattle.watch_core.proofs.Putting.{apart_first, both_ok, left_set, left_within, lists_ranked, lists_set, rank_absent}
use Rattle.watch_core.proofs.puts.put_left.Goals as goal

pub insert_left-requires-clause-none : goal.insert_left-requires-clause-none
insert_left-requires-clause-none c =
    λ other has. c.in_default.ensures other (subst (λ l. Contains l other) (sym c.as_slice.ensures.value) has)

pub returns-in_default-clause-lists : goal.returns-in_default-clause-lists
returns-in_default-clause-lists c =
    let item = c.args.left.item in
    let out = c.args.out.now.items in
    let new = c.insert_left.new.out.items in
    both_ok c.insert_left.result (IsStrictlySortedBy item_cmp (items_out new))
    (HasNew left_item (λ other. other ≡ item) (c.args.left ∷ []) out new)
    (AreLists c.take_ready.new.ready.items c.take_ready.new.ranks.items new)
    (λ in_order put.
    lists_ranked c.args.ready.now.items c.take_ready.new.ready.items c.args.ranks.now.items c.take_ready.new.ranks.items out new item [] (c.args.left ∷ []) c.requires c.take_ready.ensures.ready in_order
    c.take_ready.ensures.ranks put (apart_first node_of left_item (c.args.left ∷ [])))
    c.insert_left.ensures.in_order c.insert_left.ensures.out

pub index_mut-requires : goal.index_mut-requires
index_mut-requires c =
    let at = subst (λ (l : List Left). IsOutAt l c.args.left.item c.in-Some.place) c.as_slice.ensures.value c.in-Some.ensures in
    let within = left_within c.args.ready.now.items c.args.ranks.now.items c.args.out.now.items c.requires c.in-Some.place c.args.left.item at in
    omega (arith, within, c.args.out.now.ok.0)

pub returns-clause-lists : goal.returns-clause-lists
returns-clause-lists c =
    let at = subst (λ (l : List Left). IsOutAt l c.args.left.item c.in-Some.place) c.as_slice.ensures.value c.in-Some.ensures in
    lists_set c.args.ready.now.items c.args.ranks.now.items c.args.out.now.items c.requires c.in-Some.place c.args.left.item at c.args.left refl

pub returns-clause-ranks : goal.returns-clause-ranks
returns-clause-ranks c =
    let at = subst (λ (l : List Left). IsOutAt l c.args.left.item c.in-Some.place) c.as_slice.ensures.value c.in-Some.ensures in
    rank_absent c.args.ready.now.items c.args.ranks.now.items c.args.out.now.items c.requires c.in-Some.place c.args.left.item at

pub returns-clause-out : goal.returns-clause-out
returns-clause-out c =
    let at = subst (λ (l : List Left). IsOutAt l c.args.left.item c.in-Some.place) c.as_slice.ensures.value c.in-Some.ensures in
    left_set c.args.ready.now.items c.args.ranks.now.items c.args.out.now.items c.requires c.in-Some.place c.args.left.item at c.args.left refl
