use Rattle.std.proofs.Common.{◌∙◌}
use Rattle.page_text.specs.Rows.{is_asked}
use Rattle.page_text.proofs.RowSteps.{asked_more}
use Rattle.page_text.proofs.rows.add_ready.Goals as goal

pub loop-place-preserved : goal.loop-place-preserved
loop-place-preserved c = record {
  rows = asked_more (is_asked c.args.state.now c.args.choice.now) c.args.items.now c.loop-place.place _ _ _ _
      c.loop-place-test.true c.in_ok-add_if_asked.ensures.rows c.loop-place.invariant.rows;
  search = c.in_ok-add_if_asked.ensures.search ∙ c.loop-place.invariant.search;
}
