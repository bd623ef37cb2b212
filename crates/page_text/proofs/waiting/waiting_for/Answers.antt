use Rattle.ready_core.specs.declared.verdicts.Left.{Left}
use Rattle.page_text.specs.Waiting.{names_change, waiting_for}
use Rattle.page_text.proofs.RowSteps.{map_filter_joins, more_of}
use Rattle.page_text.proofs.waiting.waiting_for.Goals as goal

pub loop-left-preserved : goal.loop-left-preserved
loop-left-preserved c =
    let names = λ (left : Left). names_change c.args.change left.refusal in
    more_of (waiting_for c.args.change) (map_filter_joins names (λ (left : Left). left.item)) c.args.out.now
    c.loop-left.left-index _ _ _ _ c.loop-left-test.true c.loop-left.invariant c.in_ok-add_if_waiting.ensures
