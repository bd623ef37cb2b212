use Rattle.world_core.proofs.Sites.{at_ok, one_more_in}
use Rattle.world_core.proofs.site.take_copies.Goals as goal

pub loop-taken-preserved : goal.loop-taken-preserved
loop-taken-preserved g c =
    one_more_in c.args.replica.now c.args.ops.now c.loop-taken.taken c.index-ops-taken.result c.loop-taken.replica c.take_copy.new.replica
    c.loop-taken-test.true c.index-ops-taken.is c.loop-taken.invariant
    (at_ok c.take_copy.result c.is_err.result c.is_err.ensures.value c.if-is_err.false c.take_copy.ensures.ok)
