use Rattle.page_text.proofs.HeldSteps.{approval_more}
use Rattle.page_text.proofs.held.add_approvals.Goals as goal

pub loop-place-preserved : goal.loop-place-preserved
loop-place-preserved c =
    approval_more c.args.side c.loop-place.place c.args.count _ _ _ c.loop-place-test.true c.in_ok-push.ensures.items c.loop-place.invariant
