use Rattle.std.proofs.Common.{◌<◌, length, slice_index, arith}
use Rattle.std.proofs.lemmas.List.{get_or_default}
use Rattle.std.proofs.lemmas.List.Elements.{Contains-get_or}
use Rattle.walk_core.proofs.Labelling.{labelled_none, labelled_more}
use Rattle.walk_core.proofs.cycles.label.Goals as goal

pub loop-node-init : goal.loop-node-init
loop-node-init g c = labelled_none c.args.first c.args.firsts.now.items

pub index_mut-requires : goal.index_mut-requires
index_mut-requires g c =
    let within = c.requires _ (Contains-get_or c.args.nodes.now c.loop-node.node-index 0 c.loop-node-test.true) in
    omega (arith, within, c.loop-node.invariant.size, c.loop-node.firsts.ok.0)

pub loop-node-preserved : goal.loop-node-preserved
loop-node-preserved g c =
    let within = c.requires _ (Contains-get_or c.args.nodes.now c.loop-node.node-index 0 c.loop-node-test.true) in
    let inside : slice_index c.args.nodes.now c.loop-node.node-index < length c.loop-node.firsts.items = omega (arith, within, c.loop-node.invariant.size) in
    labelled_more c.args.nodes.now c.loop-node.node-index
    (slice_index c.args.nodes.now c.loop-node.node-index) c.args.first _ _ c.loop-node-test.true
    (get_or_default c.args.nodes.now c.loop-node.node-index 0 _ c.loop-node-test.true) inside c.loop-node.invariant
