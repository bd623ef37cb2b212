use Rattle.std.proofs.Common.{slice_index}
use Rattle.std.proofs.lemmas.List.{get_or_default}
use Rattle.walk_core.proofs.Labelling.{least_first, least_more}
use Rattle.walk_core.proofs.cycles.least.Goals as goal

pub loop-other-init : goal.loop-other-init
loop-other-init c = least_first c.args.node

pub loop-other-preserved : goal.loop-other-preserved
loop-other-preserved c = rw c.min-least.ensures (least_more c.args.others.now c.loop-other.other-index (slice_index c.args.others.now c.loop-other.other-index) c.args.node c.loop-other.least c.loop-other-test.true
    (get_or_default c.args.others.now c.loop-other.other-index 0 _ c.loop-other-test.true) c.loop-other.invariant)
