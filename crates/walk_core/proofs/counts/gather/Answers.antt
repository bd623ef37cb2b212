use Rattle.std.proofs.Common.{◌<◌, length, slice_index, sym, ◌∙◌, arith}
use Rattle.std.specs.Cmp.Lexicographic.{same_text}
use Rattle.std.proofs.lemmas.List.{get_or_default, take_all}
use Rattle.std.proofs.lemmas.List.Elements.{All-contains}
use Rattle.walk_core.specs.FirstLaws.{first_within}
use Rattle.walk_core.proofs.Gathering.{row_read, gathered_more, words_differ, passes_new, passes_none}
use Rattle.walk_core.proofs.counts.gather.Goals as goal

pub index-requires : goal.index-requires
index-requires g c =
    let within = first_within c.args.graph.now c.args.firsts.now c.requires.firsts c.args.node c.requires.node in
    omega (arith, within, c.requires.rows, c.args.rows.now.ok.0)

pub index-requires-in-loop-end : goal.index-requires-in-loop-end
index-requires-in-loop-end g c =
    let inside = c.ends-end-items.ensures.within c.loop-end.end-index 0 c.loop-end-test.true in
    let within = first_within c.args.graph.now c.args.firsts.now c.requires.firsts _ inside in
    omega (arith, within, c.requires.rows, c.args.rows.now.ok.0)

pub loop-end-preserved : goal.loop-end-preserved
loop-end-preserved g c =
    let rows = c.args.rows.now.items in
    let ends = c.ends-end-items.result.now in
    let end = slice_index ends c.loop-end.end-index in
    let inside = c.ends-end-items.ensures.within c.loop-end.end-index 0 c.loop-end-test.true in
    let within = first_within c.args.graph.now c.args.firsts.now c.requires.firsts _ inside in
    let here : slice_index c.args.firsts.now end < length rows = omega (arith, within, c.requires.rows) in
    gathered_more rows c.args.firsts.now _ _ _ _ ends c.loop-end.end-index end c.loop-end-test.true
    (get_or_default ends c.loop-end.end-index 0 _ c.loop-end-test.true)
    (row_read rows (slice_index c.args.firsts.now end) c.index-in-loop-end.result.now here c.index-in-loop-end.ensures) c.joined-marks.ensures c.loop-end.invariant

pub returns-then-eq : goal.returns-then-eq
returns-then-eq g c =
    let rows = c.args.rows.now.items in
    let row = slice_index c.args.firsts.now c.args.node in
    let ends = c.ends-end-items.result.now in
    let first = first_within c.args.graph.now c.args.firsts.now c.requires.firsts c.args.node c.requires.node in
    let within : row < length rows = omega (arith, first, c.requires.rows) in
    let gathered = rw (take_all c.loop-end.end-index ends c.loop-end-test.false) at c.loop-end.invariant in
    passes_none c.args.graph.now c.args.firsts.now c.args.node rows c.requires.firsts c.requires.node within c.index.result.now c.loop-end.marks
    (row_read rows row c.index.result.now within c.index.ensures) c.index.ensures ends
    (λ y here. rw c.ends-end-items.ensures.row at here) (λ y edge. rw c.ends-end-items.ensures.row edge)
    (λ y here. All-contains (λ e. e < length c.args.graph.now) ends y c.ends-end-items.ensures.within here) gathered
    (same_text _ _ (sym c.if-eq.true ∙ c.eq.ensures))

pub index_mut-requires : goal.index_mut-requires
index_mut-requires g c =
    let within = first_within c.args.graph.now c.args.firsts.now c.requires.firsts c.args.node c.requires.node in
    omega (arith, within, c.requires.rows, c.args.rows.now.ok.0)

pub returns : goal.returns
returns g c =
    let rows = c.args.rows.now.items in
    let row = slice_index c.args.firsts.now c.args.node in
    let ends = c.ends-end-items.result.now in
    let first = first_within c.args.graph.now c.args.firsts.now c.requires.firsts c.args.node c.requires.node in
    let within : row < length rows = omega (arith, first, c.requires.rows) in
    let gathered = rw (take_all c.loop-end.end-index ends c.loop-end-test.false) at c.loop-end.invariant in
    passes_new c.args.graph.now c.args.firsts.now c.args.node rows c.requires.firsts c.requires.node within c.index.result.now c.loop-end.marks
    (row_read rows row c.index.result.now within c.index.ensures) c.index.ensures ends
    (λ y here. rw c.ends-end-items.ensures.row at here) (λ y edge. rw c.ends-end-items.ensures.row edge)
    (λ y here. All-contains (λ e. e < length c.args.graph.now) ends y c.ends-end-items.ensures.within here) gathered
    (words_differ _ _ _ c.eq.ensures c.if-eq.false)
