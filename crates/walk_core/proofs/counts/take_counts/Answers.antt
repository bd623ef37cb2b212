use Rattle.std.proofs.Common.{◌<◌, length, slice_index, ◌∙◌, arith}
use Rattle.std.proofs.lemmas.List.{get_or_default}
use Rattle.std.proofs.lemmas.List.Elements.{Contains-get_or}
use Rattle.walk_core.proofs.Gathering.{row_read}
use Rattle.walk_core.proofs.Taking.{takes_none, takes_more}
use Rattle.walk_core.proofs.counts.take_counts.Goals as goal

pub loop-node-init : goal.loop-node-init
loop-node-init g c = takes_none c.args.firsts.now _ _

pub bounds-firsts-node : goal.bounds-firsts-node
bounds-firsts-node g c =
    c.requires.nodes _ (Contains-get_or c.args.nodes.now c.loop-node.node-index 0 c.loop-node-test.true)

pub offset_bounds-firsts-node : goal.offset_bounds-firsts-node
offset_bounds-firsts-node g c =
    let inside = c.requires.nodes _ (Contains-get_or c.args.nodes.now c.loop-node.node-index 0 c.loop-node-test.true) in
    omega (arith, inside)

pub loop-node-preserved : goal.loop-node-preserved
loop-node-preserved g c =
    let nodes = c.args.nodes.now in
    let node = slice_index nodes c.loop-node.node-index in
    let row = slice_index c.args.firsts.now node in
    let rows = c.loop-node.rows.items in
    let takes = c.loop-node.invariant in
    let first = c.requires.firsts node (Contains-get_or nodes c.loop-node.node-index 0 c.loop-node-test.true) in
    let within : row < length rows = omega (arith, first, takes.size) in
    let inside : row < length c.loop-node.counts.items = omega (arith, first, takes.counts_size, c.requires.sized) in
    let old = c.index.ensures ∙ get_or_default c.loop-node.counts.items row _ 0 inside in
    takes_more c.args.firsts.now nodes c.loop-node.node-index node c.loop-node-test.true
    (get_or_default nodes c.loop-node.node-index 0 _ c.loop-node-test.true) _ rows _ _ takes within inside
    c.index-in-loop-node.result.now c.none.result
    (row_read rows row c.index-in-loop-node.result.now within c.index-in-loop-node.ensures) c.none.ensures
    c.saturating_add.result (omega (arith, c.saturating_add.ensures, c.count.ensures, old))
