use Rattle.std.proofs.Common.{Contains, List, refl, subst}
use Rattle.state_core.specs.Items.{item_cmp}
use Rattle.ready_core.specs.declared.verdicts.Left.{Left}
use Rattle.watch_core.specs.Placed.{IsPlaceFor, left_item}
use Rattle.watch_core.proofs.Placing.{sorted_put}
use Rattle.watch_core.proofs.Exchange.{exchanged_insert}
use Rattle.watch_core.proofs.puts.insert_left.Goals as goal

pub place_for_left-place-requires-clause-none : goal.place_for_left-place-requires-clause-none
place_for_left-place-requires-clause-none c =
    λ left has. c.requires.none left (subst (λ l. Contains l left) c.as_slice.ensures.value has)

pub returns-clause-in_order : goal.returns-clause-in_order
returns-clause-in_order c =
    let left = c.args.left in
    let place = c.place_for_left-place.result in
    let is = subst (λ (l : List Left). IsPlaceFor left_item item_cmp l left.item place) c.as_slice.ensures.value c.place_for_left-place.ensures in
    rw c.in_ok-insert.ensures.items (sorted_put left_item item_cmp c.args.out.now.items left place c.requires.in_order is)

pub returns-clause-out : goal.returns-clause-out
returns-clause-out c = rw c.in_ok-insert.ensures.items (exchanged_insert left_item c.args.out.now.items c.place_for_left-place.result c.args.left c.args.left.item refl c.requires.none)
