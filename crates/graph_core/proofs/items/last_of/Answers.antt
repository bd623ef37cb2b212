use Rattle.std.proofs.Common.{leb, rules, arith}
use Rattle.std.proofs.lemmas.List.Sorted.{IsPartitionPoint-from_clause}
use Rattle.std.proofs.lemmas.Option.{slice_get-get_or}
use Rattle.state_core.specs.declared.item.Item.{Item}
use Rattle.graph_core.proofs.Searching.{up_to_partitioned, none_before, none_at, last_at, point_of_some, point_of_none}
use Rattle.graph_core.proofs.items.last_of.Goals as goal

pub returns-in_err-place : goal.returns-in_err-place
returns-in_err-place c =
    let point = IsPartitionPoint-from_clause (λ (item : Item). leb item.change c.args.change) c.args.items.now _ c.partition_point.ensures.partitioned (up_to_partitioned c.args.items.now c.args.change c.requires) (λ a r f' called. search rules) in
    rw c.from_residual.ensures (none_before c.args.items.now c.args.change c.partition_point.result c.requires point (point_of_none c.checked_sub.result c.partition_point.result c.checked_sub.ensures c.in_err-place.was))

pub returns-then-items-place : goal.returns-then-items-place
returns-then-items-place c =
    let point = IsPartitionPoint-from_clause (λ (item : Item). leb item.change c.args.change) c.args.items.now _ c.partition_point.ensures.partitioned (up_to_partitioned c.args.items.now c.args.change c.requires) (λ a r f' called. search rules) in
    let after = point_of_some c.checked_sub.result c.partition_point.result c.in_ok-place.place c.checked_sub.ensures c.in_ok-place.was in
    none_at c.args.items.now c.args.change c.partition_point.result c.requires point c.in_ok-place.place _ after
    (slice_get-get_or c.args.items.now c.in_ok-place.place _ (omega (arith, after, c.partition_point.ensures.bound))) c.if-items-place.true

pub returns : goal.returns
returns c =
    let point = IsPartitionPoint-from_clause (λ (item : Item). leb item.change c.args.change) c.args.items.now _ c.partition_point.ensures.partitioned (up_to_partitioned c.args.items.now c.args.change c.requires) (λ a r f' called. search rules) in
    let after = point_of_some c.checked_sub.result c.partition_point.result c.in_ok-place.place c.checked_sub.ensures c.in_ok-place.was in
    last_at c.args.items.now c.args.change c.partition_point.result c.requires point c.in_ok-place.place _ after
    (slice_get-get_or c.args.items.now c.in_ok-place.place _ (omega (arith, after, c.partition_point.ensures.bound))) c.if-items-place.false
