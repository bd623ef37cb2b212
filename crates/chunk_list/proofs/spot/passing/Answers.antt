use Rattle.std.proofs.Common.{◌∙◌, rules, sym}
use Rattle.std.proofs.lemmas.List.Sorted.{IsPartitionPoint-from_clause}
use Rattle.chunk_list.specs.RankLaws.{rank-last, rank-point}
use Rattle.chunk_list.proofs.spot.passing.Goals as goal

pub returns-then-last_passes : goal.returns-then-last_passes
returns-then-last_passes g c =
    let test = g.P.Probe.passes c.args.probe.now in
    sym (rank-last test c.args.items.now c.requires (sym c.last_passes.ensures ∙ c.if-last_passes.true))

pub returns : goal.returns
returns g c =
    let test = g.P.Probe.passes c.args.probe.now in
    rank-point test c.args.items.now c.partition_point.result c.partition_point.ensures.bound
    (IsPartitionPoint-from_clause test c.args.items.now c.partition_point.result c.partition_point.ensures.partitioned c.requires (λ a r f' k. search rules))
