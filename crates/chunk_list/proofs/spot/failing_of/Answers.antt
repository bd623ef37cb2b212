use Rattle.std.proofs.Common.{◌≤◌, ◌∙◌, ◌++◌, length, ap, arith}
use Rattle.std.specs.List.{flat_map}
use Rattle.chunk_list.specs.RankLaws.{parted_right}
use Rattle.chunk_list.proofs.Wholes.{drop_here, drop_past}
use Rattle.chunk_list.proofs.spot.failing_of.Goals as goal

pub returns-then-index-first : goal.returns-then-index-first
returns-then-index-first g c =
    let rest = flat_map (λ chunk. chunk.items) c.args.rest.now in
    c.all.ensures ∙ ap (λ l. l ++ rest) c.items_from.ensures
    ∙ drop_here (g.P.Probe.passes c.args.probe.now) c.args.first.now rest c.passing-index.result c.passing-index.ensures c.if-index-first.true

pub first_failing-requires-clause-parted : goal.first_failing-requires-clause-parted
first_failing-requires-clause-parted g c = parted_right (g.P.Probe.passes c.args.probe.now) c.args.first.now
    (flat_map (λ chunk. chunk.items) c.args.rest.now) c.requires.parted

pub returns : goal.returns
returns g c =
    let rest = flat_map (λ chunk. chunk.items) c.args.rest.now in
    let high : length c.args.first.now ≤ c.passing-index.result = omega (arith, c.if-index-first.false) in
    c.from.ensures ∙ rw c.first_failing.ensures.rank (drop_past (g.P.Probe.passes c.args.probe.now) c.args.first.now rest c.passing-index.result c.passing-index.ensures high)
