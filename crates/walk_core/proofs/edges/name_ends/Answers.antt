use Rattle.std.specs.Prelude.{slice_index}
use Rattle.std.proofs.lemmas.List.{get_or_default}
use Rattle.walk_core.specs.EdgeLaws.{Named-more, Named-all}
use Rattle.walk_core.proofs.edges.name_ends.Goals as goal

pub loop-end-preserved : goal.loop-end-preserved
loop-end-preserved g c =
    Named-more c.args.ends.now c.args.node _ c.loop-end.end-index
    (slice_index c.args.ends.now c.loop-end.end-index) _ _ c.loop-end-test.true
    (get_or_default c.args.ends.now c.loop-end.end-index 0 _ c.loop-end-test.true)
    c.loop-end.invariant c.in_ok-add_edge.ensures

pub returns : goal.returns
returns g c = Named-all c.args.ends.now c.args.node _ c.loop-end.end-index _ c.loop-end-test.false c.loop-end.invariant
