use Rattle.std.proofs.Common.{◌∙◌, ◌<◌, ◌≤◌, ◌++◌, length, ap, sym, refl, arith}
use Rattle.std.specs.List.{flat_map}
use Rattle.std.proofs.lemmas.Option.{slice_get_read}
use Rattle.chunk_list.specs.Ranks.{rank}
use Rattle.chunk_list.specs.RankLaws.{parted_right}
use Rattle.chunk_list.proofs.Wholes.{get_here, get_past, set_here, set_past, there_past}
use Rattle.chunk_list.proofs.edits.merge_there.Goals as goal

pub returns-then-index-len-clause-merged : goal.returns-then-index-len-clause-merged
returns-then-index-len-clause-merged g c =
    let test = g.T.Probe.passes c.args.entry in
    let first = c.args.first.now.items in
    let rest = flat_map (λ chunk. chunk.items) c.args.rest.now.items in
    let index = c.passing-index.result in
    let found = c.index_mut.result.now in
    let kept = c.merge_into.new.held in
    let low : index < length first = omega (arith, c.if-index-len.true, c.len.ensures, c.args.first.now.ok.0) in
    let is = c.passing-index.ensures ∙ ap (rank test) c.as_slice.ensures.value in
    (found, kept, sym (get_here test first rest index is low) ∙ slice_get_read first (length first) index found refl low c.index_mut.ensures.value, c.merge_into.ensures, set_here test first rest index is low kept)

pub merge_in-requires-clause-parted : goal.merge_in-requires-clause-parted
merge_in-requires-clause-parted g c = parted_right (g.T.Probe.passes c.args.entry) c.args.first.now.items
    (flat_map (λ chunk. chunk.items) c.args.rest.now.items) c.requires.parted

pub merge_in-requires-clause-there : goal.merge_in-requires-clause-there
merge_in-requires-clause-there g c =
    let test = g.T.Probe.passes c.args.entry in
    let first = c.args.first.now.items in
    let index = c.passing-index.result in
    let high : length first ≤ index = omega (arith, c.if-index-len.false, c.len.ensures, c.args.first.now.ok.0) in
    there_past test first (flat_map (λ chunk. chunk.items) c.args.rest.now.items) index
    (c.passing-index.ensures ∙ ap (rank test) c.as_slice.ensures.value) high c.requires.there

pub returns-clause-merged : goal.returns-clause-merged
returns-clause-merged g c =
    let test = g.T.Probe.passes c.args.entry in
    let first = c.args.first.now.items in
    let rest = flat_map (λ chunk. chunk.items) c.args.rest.now.items in
    let index = c.passing-index.result in
    let high : length first ≤ index = omega (arith, c.if-index-len.false, c.len.ensures, c.args.first.now.ok.0) in
    let is = c.passing-index.ensures ∙ ap (rank test) c.as_slice.ensures.value in
    let merged = c.merge_in.ensures.merged in
    (merged.0, merged.1, sym (get_past test first rest index is high) ∙ merged.2, merged.3, ap (λ l. first ++ l) merged.4 ∙ set_past test first rest index is high merged.1)
