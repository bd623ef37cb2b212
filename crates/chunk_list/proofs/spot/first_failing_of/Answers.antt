use Rattle.std.proofs.Common.{◌≤◌, ◌∙◌, length, arith}
use Rattle.std.specs.List.{flat_map}
use denote.Ref.{Bor}
use Rattle.chunk_list.specs.Looks.{copied_at}
use Rattle.chunk_list.specs.RankLaws.{parted_right}
use Rattle.chunk_list.proofs.Wholes.{get_here, get_past}
use Rattle.chunk_list.proofs.spot.first_failing_of.Goals as goal

pub returns-then-index-first : goal.returns-then-index-first
returns-then-index-first g c =
    copied_at (λ (b : Bor g.row.T.Denot). b.now) c.args.first.now c.passing-index.result c.get.result c.get.ensures.lookup
    ∙ get_here (g.P.Probe.passes c.args.probe.now) c.args.first.now (flat_map (λ chunk. chunk.items) c.args.rest.now)
    c.passing-index.result c.passing-index.ensures c.if-index-first.true

pub first_failing-requires-clause-parted : goal.first_failing-requires-clause-parted
first_failing-requires-clause-parted g c = parted_right (g.P.Probe.passes c.args.probe.now) c.args.first.now
    (flat_map (λ chunk. chunk.items) c.args.rest.now) c.requires.parted

pub returns : goal.returns
returns g c =
    let rest = flat_map (λ chunk. chunk.items) c.args.rest.now in
    let high : length c.args.first.now ≤ c.passing-index.result = omega (arith, c.if-index-first.false) in
    c.item_at.ensures ∙ rw c.first_failing.ensures.rank (get_past (g.P.Probe.passes c.args.probe.now) c.args.first.now rest c.passing-index.result c.passing-index.ensures high)
