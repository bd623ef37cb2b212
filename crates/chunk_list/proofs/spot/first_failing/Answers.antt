use Rattle.std.proofs.Common.{rules, ◌∙◌, refl, length, sym, subst, ap}
use Rattle.std.specs.List.Sorted.{IsPartitionedBy}
use Rattle.std.proofs.lemmas.List.Sorted.{IsPartitionPoint-from_clause}
use Rattle.chunk_list.specs.Chunks.{last_passes}
use Rattle.chunk_list.proofs.Spots.{last, parted_chunk, parted_lasts, in_rank, in_inside, past_rank, last_rank}
use Rattle.chunk_list.proofs.spot.first_failing.Goals as goal

pub returns-in-Some-get-clause-rank : goal.returns-in-Some-get-clause-rank
returns-in-Some-get-clause-rank g c =
    let chunks = c.args.chunks.now in
    let test = g.P.Probe.passes c.args.probe.now in
    let chunk = c.partition_point-chunk.result in
    let found = c.in-Some-get.found.now in
    let look = c.in-Some-get.ensures.lookup in
    let items = c.as_slice-in-Some-get.ensures.value in
    in_rank (λ c. c.items) test chunks c.requires.filled c.requires.parted chunk c.partition_point-chunk.ensures.bound
    (IsPartitionPoint-from_clause (last (λ c. c.items) test) chunks chunk c.partition_point-chunk.ensures.partitioned (parted_lasts (λ c. c.items) test chunks c.requires.filled c.requires.parted) (λ a r f' k. search rules))
    found look.3.0 look.1 c.as_slice-in-Some-get.result.now items c.partition_point-index.result c.partition_point-index.ensures.bound
    (IsPartitionPoint-from_clause test c.as_slice-in-Some-get.result.now c.partition_point-index.result c.partition_point-index.ensures.partitioned
    (subst (IsPartitionedBy test) (sym (items ∙ ap (λ c. c.items) look.1)) (parted_chunk (λ c. c.items) test chunks chunk found look.3.0 c.requires.parted)) (λ a r f' k. search rules))

pub returns-in-Some-get-clause-inside : goal.returns-in-Some-get-clause-inside
returns-in-Some-get-clause-inside g c =
    let chunks = c.args.chunks.now in
    let test = g.P.Probe.passes c.args.probe.now in
    let chunk = c.partition_point-chunk.result in
    let found = c.in-Some-get.found.now in
    let look = c.in-Some-get.ensures.lookup in
    let items = c.as_slice-in-Some-get.ensures.value in
    in_inside (λ c. c.items) test chunks c.requires.filled c.requires.parted chunk c.partition_point-chunk.ensures.bound
    (IsPartitionPoint-from_clause (last (λ c. c.items) test) chunks chunk c.partition_point-chunk.ensures.partitioned (parted_lasts (λ c. c.items) test chunks c.requires.filled c.requires.parted) (λ a r f' k. search rules))
    found look.3.0 look.1 c.as_slice-in-Some-get.result.now items c.partition_point-index.result c.partition_point-index.ensures.bound
    (IsPartitionPoint-from_clause test c.as_slice-in-Some-get.result.now c.partition_point-index.result c.partition_point-index.ensures.partitioned
    (subst (IsPartitionedBy test) (sym (items ∙ ap (λ c. c.items) look.1)) (parted_chunk (λ c. c.items) test chunks chunk found look.3.0 c.requires.parted)) (λ a r f' k. search rules))

pub returns-in-None-clause-rank : goal.returns-in-None-clause-rank
returns-in-None-clause-rank g c =
    let chunks = c.args.chunks.now in
    let test = g.P.Probe.passes c.args.probe.now in
    let chunk = c.partition_point-chunk.result in
    past_rank (λ c. c.items) test chunks c.requires.filled c.requires.parted chunk c.partition_point-chunk.ensures.bound
    (IsPartitionPoint-from_clause (last (λ c. c.items) test) chunks chunk c.partition_point-chunk.ensures.partitioned (parted_lasts (λ c. c.items) test chunks c.requires.filled c.requires.parted) (λ a r f' k. search rules))
    c.in-None.ensures.lookup.3

pub returns-clause-rank : goal.returns-clause-rank
returns-clause-rank g c =
    let test = g.P.Probe.passes c.args.probe.now in
    last_rank (λ c. c.items) test c.args.chunks.now c.in-Some.last.now c.requires.filled c.requires.parted c.in-Some.ensures.value
    (ap (last_passes test) (sym c.as_slice.ensures.value) ∙ sym c.last_passes.ensures ∙ c.if-last_passes.true)
    (length c.args.chunks.now) refl
