use Rattle.std.proofs.Common.{◌≡◌, None, replicate, rules, arith}
use Rattle.std.proofs.lemmas.Option.{slice_get_within}
use Rattle.walk_core.proofs.Labels.{regions_none, regions_skip, regions_more, regions_all}
use Rattle.walk_core.proofs.regions.region_labels.Goals as goal

pub loop-node-init : goal.loop-node-init
loop-node-init g c =
    let none : c.in_ok-labels.labels.items ≡ replicate c.len.result None = search rules in
    rw none (regions_none c.args.graph.now c.args.kept.now c.len.result c.len.ensures)

pub loop-node-preserved-then-not-waits : goal.loop-node-preserved-then-not-waits
loop-node-preserved-then-not-waits g c =
    regions_skip c.args.graph.now c.args.kept.now _ _ c.loop-node.invariant
    (rw c.as_slice.ensures.value at c.if-not-waits.ensures)

pub loop-node-preserved : goal.loop-node-preserved
loop-node-preserved g c =
    regions_more c.args.graph.now c.args.kept.now c.loop-node.labels.items c.loop-node.node c.loop-node.invariant
    (omega (arith, c.loop-node-test.true, c.len-node-end.ensures)) _ c.in_ok-label_region.ensures

pub returns : goal.returns
returns g c = regions_all c.args.graph.now c.args.kept.now _ c.loop-node.node
    (omega (arith, c.loop-node-test.false, c.len-node-end.ensures, c.requires))
    (λ x marked. slice_get_within c.args.kept.now x _ marked) c.loop-node.invariant
