use Rattle.std.proofs.Common.{◌<◌, slice_index, length, arith}
use Rattle.std.proofs.lemmas.List.{get_or_default}
use Rattle.std.proofs.lemmas.List.Elements.{Contains-get_or, All-contains}
use Rattle.walk_core.specs.FirstLaws.{first_within}
use Rattle.walk_core.proofs.Exits.{forks_none, forks_keep, forks_mark}
use Rattle.walk_core.proofs.sums.forks_of.Goals as goal

pub loop-node-init : goal.loop-node-init
loop-node-init g c = forks_none c.args.graph.now c.args.firsts.now c.args.nexts.now _
    (omega (arith, c.in_ok-forks.ensures.len, c.len.ensures, c.in_ok-forks.forks.ok.0))

pub bounds-firsts-node : goal.bounds-firsts-node
bounds-firsts-node g c =
    let inside = c.requires.nodes _ (Contains-get_or c.args.nodes.now c.loop-node.node-index 0 c.loop-node-test.true) in
    omega (arith, inside, c.requires.firsts.size)

pub offset_bounds-firsts-node : goal.offset_bounds-firsts-node
offset_bounds-firsts-node g c =
    let inside = c.requires.nodes _ (Contains-get_or c.args.nodes.now c.loop-node.node-index 0 c.loop-node-test.true) in
    omega (arith, inside, c.requires.firsts.size)

pub bounds-nexts-first : goal.bounds-nexts-first
bounds-nexts-first g c =
    let inside = c.requires.nodes _ (Contains-get_or c.args.nodes.now c.loop-node.node-index 0 c.loop-node-test.true) in
    let within = first_within c.args.graph.now c.args.firsts.now c.requires.firsts _ inside in
    omega (arith, within, c.requires.nexts)

pub offset_bounds-nexts-first : goal.offset_bounds-nexts-first
offset_bounds-nexts-first g c =
    let inside = c.requires.nodes _ (Contains-get_or c.args.nodes.now c.loop-node.node-index 0 c.loop-node-test.true) in
    let within = first_within c.args.graph.now c.args.firsts.now c.requires.firsts _ inside in
    omega (arith, within, c.requires.nexts)

pub ends-requires : goal.ends-requires
ends-requires g c = c.requires.nodes _ (Contains-get_or c.args.nodes.now c.loop-node.node-index 0 c.loop-node-test.true)

pub leads_elsewhere-requires : goal.leads_elsewhere-requires
leads_elsewhere-requires g c = λ x here.
    let inside = All-contains (λ e. e < length c.args.graph.now) c.ends.result.now x c.ends.ensures.within here in
    omega (arith, inside, c.requires.firsts.size)

pub loop-node-preserved-then-not-leads_elsewhere : goal.loop-node-preserved-then-not-leads_elsewhere
loop-node-preserved-then-not-leads_elsewhere g c =
    let nodes = c.args.nodes.now in
    forks_keep c.args.graph.now c.args.firsts.now c.args.nexts.now nodes c.loop-node.node-index
    (slice_index nodes c.loop-node.node-index) c.loop-node-test.true
    (get_or_default nodes c.loop-node.node-index 0 _ c.loop-node-test.true) _ c.loop-node.invariant
    (λ y edge. c.if-not-leads_elsewhere.ensures y (rw c.ends.ensures.row edge))

pub index_mut-requires : goal.index_mut-requires
index_mut-requires g c =
    let inside = c.requires.nodes _ (Contains-get_or c.args.nodes.now c.loop-node.node-index 0 c.loop-node-test.true) in
    let within = first_within c.args.graph.now c.args.firsts.now c.requires.firsts _ inside in
    omega (arith, within, c.loop-node.invariant.size, c.loop-node.forks.ok.0)

pub loop-node-preserved : goal.loop-node-preserved
loop-node-preserved g c =
    let nodes = c.args.nodes.now in
    let inside = c.requires.nodes _ (Contains-get_or nodes c.loop-node.node-index 0 c.loop-node-test.true) in
    let within = first_within c.args.graph.now c.args.firsts.now c.requires.firsts _ inside in
    forks_mark c.args.graph.now c.args.firsts.now c.args.nexts.now nodes c.loop-node.node-index
    (slice_index nodes c.loop-node.node-index) c.loop-node-test.true
    (get_or_default nodes c.loop-node.node-index 0 _ c.loop-node-test.true) _ c.loop-node.invariant
    (omega (arith, within, c.loop-node.invariant.size))
