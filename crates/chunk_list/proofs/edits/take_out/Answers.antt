use Rattle.std.proofs.Common.{◌∙◌, ◌<◌, ◌≤◌, ◌++◌, length, ap, sym, refl, arith}
use Rattle.std.specs.List.{flat_map}
use Rattle.std.proofs.lemmas.Option.{slice_get_read}
use Rattle.chunk_list.specs.Ranks.{rank}
use Rattle.chunk_list.specs.RankLaws.{parted_right}
use Rattle.chunk_list.proofs.Wholes.{get_here, get_past, remove_here, remove_past}
use Rattle.chunk_list.proofs.edits.take_out.Goals as goal

pub returns-then-index-len-clause-item : goal.returns-then-index-len-clause-item
returns-then-index-len-clause-item g c =
    let test = g.P.Probe.passes c.args.probe.now in
    let first = c.args.first.now.items in
    let index = c.passing-index.result in
    let low : index < length first = omega (arith, c.if-index-len.true, c.len.ensures, c.args.first.now.ok.0) in
    sym (slice_get_read first (length first) index c.remove.result refl low c.remove.ensures.value)
    ∙ get_here test first (flat_map (λ chunk. chunk.items) c.args.rest.now.items) index
    (c.passing-index.ensures ∙ ap (rank test) c.as_slice.ensures.value) low

pub returns-then-index-len-clause-rest : goal.returns-then-index-len-clause-rest
returns-then-index-len-clause-rest g c =
    let test = g.P.Probe.passes c.args.probe.now in
    let first = c.args.first.now.items in
    let rest = flat_map (λ chunk. chunk.items) c.args.rest.now.items in
    let index = c.passing-index.result in
    let low : index < length first = omega (arith, c.if-index-len.true, c.len.ensures, c.args.first.now.ok.0) in
    ap (λ l. l ++ rest) c.remove.ensures.items
    ∙ remove_here test first rest index (c.passing-index.ensures ∙ ap (rank test) c.as_slice.ensures.value) low

pub take_from-requires-clause-parted : goal.take_from-requires-clause-parted
take_from-requires-clause-parted g c = parted_right (g.P.Probe.passes c.args.probe.now) c.args.first.now.items
    (flat_map (λ chunk. chunk.items) c.args.rest.now.items) c.requires.parted

pub returns-clause-item : goal.returns-clause-item
returns-clause-item g c =
    let test = g.P.Probe.passes c.args.probe.now in
    let first = c.args.first.now.items in
    let index = c.passing-index.result in
    let high : length first ≤ index = omega (arith, c.if-index-len.false, c.len.ensures, c.args.first.now.ok.0) in
    c.take_from.ensures.item ∙ get_past test first (flat_map (λ chunk. chunk.items) c.args.rest.now.items) index
    (c.passing-index.ensures ∙ ap (rank test) c.as_slice.ensures.value) high

pub returns-clause-rest : goal.returns-clause-rest
returns-clause-rest g c =
    let test = g.P.Probe.passes c.args.probe.now in
    let first = c.args.first.now.items in
    let index = c.passing-index.result in
    let high : length first ≤ index = omega (arith, c.if-index-len.false, c.len.ensures, c.args.first.now.ok.0) in
    ap (λ l. first ++ l) c.take_from.ensures.rest
    ∙ remove_past test first (flat_map (λ chunk. chunk.items) c.args.rest.now.items) index
    (c.passing-index.ensures ∙ ap (rank test) c.as_slice.ensures.value) high
