use Rattle.page_text.proofs.ReachedSteps.{more_added, none_added}
use Rattle.page_text.proofs.reached.add_new.Goals as goal

pub loop-number-init : goal.loop-number-init
loop-number-init c = none_added _

pub loop-number-preserved : goal.loop-number-preserved
loop-number-preserved c =
    more_added c.args.more.now _ _ _ c.loop-number.number-index _ c.loop-number-test.true c.loop-number.invariant
    c.in_ok-add_one.ensures
