use Rattle.std.proofs.Common.{rules, ap}
use Rattle.std.proofs.lemmas.List.Sorted.{IsPartitionPoint-from_clause}
use Rattle.walk_core.specs.Ranks.{Rank, rank_cmp}
use Rattle.state_core.specs.declared.item.Item.{Item}
use Rattle.state_core.specs.Items.{item_cmp}
use Rattle.ready_core.specs.ItemRanks.{to_rank}
use Rattle.state_core.specs.SearchLaws.{comes_before, partitioned}
use Rattle.watch_core.proofs.Placing.{place_for}
use Rattle.watch_core.proofs.Exchange.{ranks_order}
use Rattle.watch_core.proofs.places.place_for_rank.Goals as goal

pub returns : goal.returns
returns c =
    let ranks = c.args.ranks.now in
    let key = to_rank c.args.rank in
    let point = IsPartitionPoint-from_clause (comes_before to_rank (rank_cmp item_cmp) key) ranks _ c.partition_point.ensures.partitioned (partitioned to_rank ranks_order ranks c.requires.in_order key) (λ a r f' called. search rules) in
    place_for to_rank ranks_order ranks c.requires.in_order key c.partition_point.result point (search rules)
    (λ other has same. c.requires.none other has (ap (λ (r : Rank Item). r.node) same))
