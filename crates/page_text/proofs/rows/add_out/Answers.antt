use Rattle.std.proofs.Common.{◌∙◌, List, map}
use Rattle.std.specs.Prelude.{filter}
use Rattle.ready_core.specs.declared.verdicts.Left.{Left}
use Rattle.page_text.specs.Rows.{is_asked}
use Rattle.page_text.specs.declared.rows.Row.TheVariants.{Waits}
use Rattle.page_text.proofs.RowSteps.{filter_map_joins, more_of}
use Rattle.page_text.proofs.rows.add_out.Goals as goal

pub loop-left-preserved : goal.loop-left-preserved
loop-left-preserved c =
    let test = is_asked c.args.state.now c.args.choice.now in
    record {
      rows = more_of (λ (l : List Left). filter test (map Waits l)) (filter_map_joins test Waits) c.args.out.now
          c.loop-left.left-index _ _ _ _ c.loop-left-test.true c.loop-left.invariant.rows
          c.in_ok-add_if_asked.ensures.rows;
      search = c.in_ok-add_if_asked.ensures.search ∙ c.loop-left.invariant.search;
    }
