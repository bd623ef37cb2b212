use Rattle.std.proofs.Common.{ap, ◌∙◌, rules, length, refl}
use Rattle.std.proofs.lemmas.List.Sorted.{IsPartitionPoint-from_clause}
use Rattle.std.proofs.lemmas.Option.{slice_get_past, slice_get_read}
use Rattle.lattice_core.specs.PlaceLaws.{one_item}
use Rattle.state_core.specs.declared.item.Item.{Item}
use Rattle.state_core.specs.Items.{item_cmp}
use Rattle.state_core.specs.ItemLaws.{items_alike, items_apart, items_order}
use Rattle.state_core.specs.SearchLaws.{at_point, comes_before, partitioned}
use Rattle.ready_core.specs.declared.verdicts.Left.{Left}
use Rattle.ready_core.proofs.places.place_out.Goals as goal

abbrev item_of : Left → Item
item_of left = left.item

pub returns-in_err-left : goal.returns-in_err-left
returns-in_err-left c =
    let out = c.args.out.now in
    let item = c.args.item in
    let point = IsPartitionPoint-from_clause (comes_before item_of item_cmp item) out _ c.partition_point-place.ensures.partitioned (partitioned item_of items_order out c.requires item) (λ a r f' called. search rules) in
    let look = c.in_err-left.ensures.lookup in
    rw c.from_residual.ensures (λ left has of.
    let here = at_point item_of items_order out c.requires item c.partition_point-place.result point left has of in
    let past = slice_get_past out c.partition_point-place.result look.3 in
    cc)

pub returns-then-ne : goal.returns-then-ne
returns-then-ne c =
    let out = c.args.out.now in
    let item = c.args.item in
    let left = c.in_ok-left.left.now in
    let point = IsPartitionPoint-from_clause (comes_before item_of item_cmp item) out _ c.partition_point-place.ensures.partitioned (partitioned item_of items_order out c.requires item) (λ a r f' called. search rules) in
    let look = c.in_ok-left.ensures.lookup in
    let here = slice_get_read out (length out) c.partition_point-place.result left refl look.3.0 look.1 in
    λ other has of.
    let there = at_point item_of items_order out c.requires item c.partition_point-place.result point other has of in
    items_apart left.item item c.ne.result c.ne.ensures c.if-ne.true
    (ap (λ (l : Left). l.item) (one_item out c.partition_point-place.result left other here there) ∙ of)

pub returns : goal.returns
returns c =
    let out = c.args.out.now in
    let left = c.in_ok-left.left.now in
    let look = c.in_ok-left.ensures.lookup in
    record {
      left = left;
      here = slice_get_read out (length out) c.partition_point-place.result left refl look.3.0 look.1;
      of = items_alike left.item c.args.item c.ne.result c.ne.ensures c.if-ne.false;
    }
