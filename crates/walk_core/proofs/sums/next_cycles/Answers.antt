use Rattle.std.proofs.Common.{◌≡◌, ◌<◌, None, replicate, rules, slice_index, length, arith}
use Rattle.std.proofs.lemmas.List.Elements.{Contains-get_or, All-contains}
use Rattle.walk_core.specs.FirstLaws.{first_within}
use Rattle.walk_core.proofs.Exits.{nexts_none, nexts_more}
use Rattle.walk_core.proofs.sums.next_cycles.Goals as goal

pub loop-node-init : goal.loop-node-init
loop-node-init g c =
    let none : c.in_ok-nexts.nexts.items ≡ replicate c.len.result None = search rules in
    rw none (nexts_none c.args.graph.now c.args.firsts.now c.len.result c.len.ensures)

pub bounds-firsts-node : goal.bounds-firsts-node
bounds-firsts-node g c =
    let inside = c.requires.nodes _ (Contains-get_or c.args.nodes.now c.loop-node.node-index 0 c.loop-node-test.true) in
    omega (arith, inside, c.requires.firsts.size)

pub offset_bounds-firsts-node : goal.offset_bounds-firsts-node
offset_bounds-firsts-node g c =
    let inside = c.requires.nodes _ (Contains-get_or c.args.nodes.now c.loop-node.node-index 0 c.loop-node-test.true) in
    omega (arith, inside, c.requires.firsts.size)

pub ends-requires : goal.ends-requires
ends-requires g c = c.requires.nodes _ (Contains-get_or c.args.nodes.now c.loop-node.node-index 0 c.loop-node-test.true)

pub way_out-requires : goal.way_out-requires
way_out-requires g c = λ x here.
    let inside = All-contains (λ e. e < length c.args.graph.now) c.ends.result.now x c.ends.ensures.within here in
    omega (arith, inside, c.requires.firsts.size)

pub index_mut-requires : goal.index_mut-requires
index_mut-requires g c =
    let inside = c.requires.nodes _ (Contains-get_or c.args.nodes.now c.loop-node.node-index 0 c.loop-node-test.true) in
    let within = first_within c.args.graph.now c.args.firsts.now c.requires.firsts _ inside in
    omega (arith, within, c.loop-node.invariant.size, c.loop-node.nexts.ok.0)

pub loop-node-preserved : goal.loop-node-preserved
loop-node-preserved g c =
    let node = slice_index c.args.nodes.now c.loop-node.node-index in
    let inside = c.requires.nodes node (Contains-get_or c.args.nodes.now c.loop-node.node-index 0 c.loop-node-test.true) in
    nexts_more c.args.graph.now c.args.firsts.now c.requires.firsts node inside c.ends.result.now
    (λ y here. rw c.ends.ensures.row at here)
    (λ y here. All-contains (λ e. e < length c.args.graph.now) c.ends.result.now y c.ends.ensures.within here) _ c.in-Some.next c.loop-node.invariant c.in-Some.ensures
