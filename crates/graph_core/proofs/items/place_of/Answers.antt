use Rattle.std.proofs.Common.{rules}
use Rattle.std.proofs.lemmas.List.Sorted.{IsPartitionPoint-from_clause}
use Rattle.graph_core.proofs.Searching.{stands_before, before_partitioned, found_at}
use Rattle.graph_core.proofs.items.place_of.Goals as goal

pub returns : goal.returns
returns c =
    let item = c.args.item in
    let items = c.args.items.now in
    let point = IsPartitionPoint-from_clause (stands_before item) items _ c.partition_point.ensures.partitioned (before_partitioned items c.requires.in_order item) (λ a r f' called. search rules) in
    found_at items c.requires.in_order item c.partition_point.result point c.requires.there
