use Rattle.std.proofs.Common.{rules}
use Rattle.std.proofs.lemmas.List.Sorted.{IsPartitionPoint-from_clause}
use Rattle.state_core.specs.Items.{item_cmp}
use Rattle.watch_core.specs.Placed.{left_item}
use Rattle.state_core.specs.ItemLaws.{items_order}
use Rattle.state_core.specs.SearchLaws.{comes_before, partitioned}
use Rattle.watch_core.proofs.Placing.{place_for}
use Rattle.watch_core.proofs.places.place_for_left.Goals as goal

pub returns : goal.returns
returns c =
    let out = c.args.out.now in
    let item = c.args.item in
    let point = IsPartitionPoint-from_clause (comes_before left_item item_cmp item) out _ c.partition_point.ensures.partitioned (partitioned left_item items_order out c.requires.in_order item) (λ a r f' called. search rules) in
    place_for left_item items_order out c.requires.in_order item c.partition_point.result point
    (search rules) c.requires.none
