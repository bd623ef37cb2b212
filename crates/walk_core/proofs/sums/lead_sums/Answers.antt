use Rattle.std.proofs.Common.{◌≡◌, ◌<◌, None, slice_index, length, sym, subst, ◌∙◌, arith}
use Rattle.std.specs.List.{Contains}
use Rattle.std.specs.Ordering.{nat_cmp}
use Rattle.std.proofs.lemmas.List.{get_or_default, get_or_read}
use Rattle.walk_core.specs.Digraphs.{IsMarked}
use Rattle.walk_core.specs.Ranks.{HasCount}
use Rattle.walk_core.specs.Sums.{AreForks, IsHereOrNext, option_at}
use Rattle.walk_core.proofs.Kept.{unmarked_of}
use Rattle.std.proofs.lemmas.List.Elements.{Contains-get_or}
use Rattle.walk_core.specs.FirstLaws.{first_within}
use Rattle.walk_core.proofs.Adding.{sums_more}
use Rattle.walk_core.proofs.sums.lead_sums.Goals as goal

pub sizes_of-requires-clause-nodes : goal.sizes_of-requires-clause-nodes
sizes_of-requires-clause-nodes g c = λ x here.
    let within = c.requires.nodes.within x ((c.requires.targets x).0 here) in omega
    (arith, within, c.requires.firsts.size)

pub sizes_of-requires-clause-firsts : goal.sizes_of-requires-clause-firsts
sizes_of-requires-clause-firsts g c = λ x here.
    let within = first_within c.args.graph.now c.args.firsts.now c.requires.firsts x (c.requires.nodes.within x ((c.requires.targets x).0 here)) in
    omega (arith, within, c.requires.firsts.size)

pub bounds-firsts-node : goal.bounds-firsts-node
bounds-firsts-node g c =
    let inside = c.requires.nodes.within _ (Contains-get_or c.args.nodes.now c.loop-node.node-index 0 c.loop-node-test.true) in
    omega (arith, inside, c.requires.firsts.size)

pub offset_bounds-firsts-node : goal.offset_bounds-firsts-node
offset_bounds-firsts-node g c =
    let inside = c.requires.nodes.within _ (Contains-get_or c.args.nodes.now c.loop-node.node-index 0 c.loop-node-test.true) in
    omega (arith, inside, c.requires.firsts.size)

pub index-requires : goal.index-requires
index-requires g c =
    let within = first_within c.args.graph.now c.args.firsts.now c.requires.firsts _ (c.requires.nodes.within _ (Contains-get_or c.args.nodes.now c.loop-node.node-index 0 c.loop-node-test.true)) in
    omega (arith, within, c.in_ok-forks.ensures.size, c.in_ok-forks.forks.ok.0)

pub index-requires-in-loop-node : goal.index-requires-in-loop-node
index-requires-in-loop-node g c =
    let within = first_within c.args.graph.now c.args.firsts.now c.requires.firsts _ (c.requires.nodes.within _ (Contains-get_or c.args.nodes.now c.loop-node.node-index 0 c.loop-node-test.true)) in
    omega (arith, within, c.requires.firsts.size, c.in_ok-sizes.ensures.0, c.in_ok-sizes.sizes.ok.0)

pub index-requires-in-loop-node-2 : goal.index-requires-in-loop-node-2
index-requires-in-loop-node-2 g c =
    let within = first_within c.args.graph.now c.args.firsts.now c.requires.firsts _ (c.requires.nodes.within _ (Contains-get_or c.args.nodes.now c.loop-node.node-index 0 c.loop-node-test.true)) in
    omega (arith, within, c.in_ok-nexts.ensures.size, c.in_ok-nexts.nexts.ok.0)

pub sum_with-requires : goal.sum_with-requires
sum_with-requires g c = λ to is.
    let within = first_within c.args.graph.now c.args.firsts.now c.requires.firsts _ (c.requires.nodes.within _ (Contains-get_or c.args.nodes.now c.loop-node.node-index 0 c.loop-node-test.true)) in
    let nexts = c.in_ok-nexts.ensures in
    let first = slice_index c.args.firsts.now (slice_index c.args.nodes.now c.loop-node.node-index) in
    let read = get_or_read c.in_ok-nexts.nexts.items first _ (omega (arith, within, nexts.size)) c.index-in-loop-node-2.ensures None in
    let inside = (nexts.each first to (sym read ∙ is)).within in
    let sized : to < length c.loop-node.sums.items = omega (arith, inside, c.loop-node.invariant.size) in
    rw c.as_slice-in-loop-node.ensures.value sized

pub index_mut-requires : goal.index_mut-requires
index_mut-requires g c =
    let within = first_within c.args.graph.now c.args.firsts.now c.requires.firsts _ (c.requires.nodes.within _ (Contains-get_or c.args.nodes.now c.loop-node.node-index 0 c.loop-node-test.true)) in
    omega (arith, within, c.loop-node.invariant.size, c.loop-node.sums.ok.0)

pub loop-node-preserved : goal.loop-node-preserved
loop-node-preserved g c =
    let graph = c.args.graph.now in
    let firsts = c.args.firsts.now in
    let nodes = c.args.nodes.now in
    let targets = c.args.targets.now in
    let node = slice_index nodes c.loop-node.node-index in
    let first = slice_index firsts node in
    let here = Contains-get_or nodes c.loop-node.node-index 0 c.loop-node-test.true in
    let within = first_within graph firsts c.requires.firsts node (c.requires.nodes.within node here) in
    let nexts = c.in_ok-nexts.ensures in
    let forks : AreForks graph firsts c.in_ok-nexts.nexts.items nodes c.in_ok-forks.forks.items = rw c.as_slice.ensures.value at c.in_ok-forks.ensures in
    let next = c.index-in-loop-node-2.result.now in
    let size = c.index-in-loop-node.result.now in
    let next_read : next ≡ option_at c.in_ok-nexts.nexts.items first = get_or_read c.in_ok-nexts.nexts.items first next (omega (arith, within, nexts.size)) c.index-in-loop-node-2.ensures None in
    let size_read : size ≡ slice_index c.in_ok-sizes.sizes.items first =
    c.index-in-loop-node.ensures ∙ get_or_default c.in_ok-sizes.sizes.items first size 0 (omega (arith, within, c.requires.firsts.size, c.in_ok-sizes.ensures.0)) in
    let own = subst (HasCount nat_cmp (λ y. Contains targets y × (slice_index firsts y ≡ first))) (sym size_read) (c.in_ok-sizes.ensures.1 first (omega (arith, within, c.requires.firsts.size))) in
    let free = unmarked_of c.in_ok-forks.forks.items first c.index.result.now (omega (arith, within, forks.size)) (sym c.index.ensures ∙ c.if-index.false) in
    let value = rw c.as_slice-in-loop-node.ensures.value at c.sum_with.ensures in
    sums_more graph firsts c.requires.firsts nodes targets c.requires.nodes c.requires.targets c.requires.in_order node here next size c.loop-node.sums.items c.loop-node.invariant (omega arith) own
    (λ to is. nexts.each first to (sym next_read ∙ is))
    (λ x y inside on edge. subst (λ o. IsHereOrNext firsts first o y) (sym next_read)
    (subst (λ f. IsHereOrNext firsts f (option_at c.in_ok-nexts.nexts.items f) y) on (forks.each x y inside edge (λ marked. free (subst (IsMarked c.in_ok-forks.forks.items) on marked)))))
    c.sum_with.result value (omega (arith, within, c.loop-node.invariant.size))
