use Rattle.std.proofs.Common.{◌<◌, length, slice_index, arith}
use Rattle.std.proofs.lemmas.List.Elements.{Contains-get_or}
use Rattle.walk_core.proofs.Blocks.{marked_none, marked_more}
use Rattle.walk_core.specs.FirstLaws.{first_within}
use Rattle.walk_core.proofs.Gathering.{row_read}
use Rattle.walk_core.proofs.counts.mark_block.Goals as goal

pub loop-target-init : goal.loop-target-init
loop-target-init g c = marked_none c.args.graph.now c.args.firsts.now c.args.block.now _ c.requires.rows c.requires.bare

pub bounds-firsts-node : goal.bounds-firsts-node
bounds-firsts-node g c =
    let is_node = c.requires.targets _ (Contains-get_or c.args.block.now c.loop-target.target 0 c.loop-target-test.true) in
    omega (arith, is_node, c.requires.firsts.size)

pub index_mut-requires : goal.index_mut-requires
index_mut-requires g c =
    let is_node = c.requires.targets _ (Contains-get_or c.args.block.now c.loop-target.target 0 c.loop-target-test.true) in
    let within = first_within c.args.graph.now c.args.firsts.now c.requires.firsts _ is_node in
    omega (arith, within, c.loop-target.invariant.size, c.loop-target.rows.ok.0)

pub loop-target-preserved : goal.loop-target-preserved
loop-target-preserved g c =
    let node = slice_index c.args.block.now c.loop-target.target in
    let row = slice_index c.args.firsts.now node in
    let rows = c.loop-target.rows.items in
    let is_node = c.requires.targets _ (Contains-get_or c.args.block.now c.loop-target.target 0 c.loop-target-test.true) in
    let first = first_within c.args.graph.now c.args.firsts.now c.requires.firsts _ is_node in
    let within : row < length rows = omega (arith, first, c.loop-target.invariant.size) in
    marked_more c.args.graph.now c.args.firsts.now c.args.block.now rows c.loop-target.target c.requires.firsts c.loop-target.invariant c.loop-target-test.true is_node
    c.index_mut.result.now c.put.new.self
    (row_read rows row c.index_mut.result.now within c.index_mut.ensures.value) c.put.ensures

pub offset_bounds-firsts-node : goal.offset_bounds-firsts-node
offset_bounds-firsts-node g c =
    let is_node = c.requires.targets _ (Contains-get_or c.args.block.now c.loop-target.target 0 c.loop-target-test.true) in
    omega (arith, is_node, c.requires.firsts.size)
