use Rattle.std.proofs.Common.{◌≡◌, ◌∙◌, ◌<◌, ◌≤◌, ◌++◌, length, get_or, set, ap, subst, sym, refl, arith}
use Rattle.std.specs.List.{flat_map}
use Rattle.std.proofs.lemmas.Option.{slice_get_read}
use Rattle.chunk_list.specs.Ranks.{rank}
use Rattle.chunk_list.specs.RankLaws.{parted_right}
use Rattle.chunk_list.proofs.Wholes.{get_here, get_past, set_here, set_past}
use Rattle.chunk_list.proofs.edits.exchange.Goals as goal

pub returns-then-index-len-clause-item : goal.returns-then-index-len-clause-item
returns-then-index-len-clause-item g c =
    let test = g.P.Probe.passes c.args.probe.now in
    let first = c.args.first.now.items in
    let index = c.passing-index.result in
    let low : index < length first = omega (arith, c.if-index-len.true, c.len.ensures, c.args.first.now.ok.0) in
    sym (slice_get_read first (length first) index c.replace.result refl low (subst (λ x. x ≡ get_or first index x) (sym c.replace.ensures.value) c.index_mut.ensures.value))
    ∙ get_here test first (flat_map (λ chunk. chunk.items) c.args.rest.now.items) index
    (c.passing-index.ensures ∙ ap (rank test) c.as_slice.ensures.value) low

pub returns-then-index-len-clause-rest : goal.returns-then-index-len-clause-rest
returns-then-index-len-clause-rest g c =
    let test = g.P.Probe.passes c.args.probe.now in
    let first = c.args.first.now.items in
    let rest = flat_map (λ chunk. chunk.items) c.args.rest.now.items in
    let index = c.passing-index.result in
    let low : index < length first = omega (arith, c.if-index-len.true, c.len.ensures, c.args.first.now.ok.0) in
    ap (λ x. set first index x ++ rest) c.replace.ensures.after
    ∙ set_here test first rest index (c.passing-index.ensures ∙ ap (rank test) c.as_slice.ensures.value) low c.args.item

pub exchange_in-requires-clause-parted : goal.exchange_in-requires-clause-parted
exchange_in-requires-clause-parted g c = parted_right (g.P.Probe.passes c.args.probe.now) c.args.first.now.items
    (flat_map (λ chunk. chunk.items) c.args.rest.now.items) c.requires.parted

pub returns-clause-item : goal.returns-clause-item
returns-clause-item g c =
    let test = g.P.Probe.passes c.args.probe.now in
    let first = c.args.first.now.items in
    let index = c.passing-index.result in
    let high : length first ≤ index = omega (arith, c.if-index-len.false, c.len.ensures, c.args.first.now.ok.0) in
    c.exchange_in.ensures.item ∙ get_past test first (flat_map (λ chunk. chunk.items) c.args.rest.now.items) index
    (c.passing-index.ensures ∙ ap (rank test) c.as_slice.ensures.value) high

pub returns-clause-rest : goal.returns-clause-rest
returns-clause-rest g c =
    let test = g.P.Probe.passes c.args.probe.now in
    let first = c.args.first.now.items in
    let index = c.passing-index.result in
    let high : length first ≤ index = omega (arith, c.if-index-len.false, c.len.ensures, c.args.first.now.ok.0) in
    ap (λ l. first ++ l) c.exchange_in.ensures.rest
    ∙ set_past test first (flat_map (λ chunk. chunk.items) c.args.rest.now.items) index
    (c.passing-index.ensures ∙ ap (rank test) c.as_slice.ensures.value) high c.args.item
