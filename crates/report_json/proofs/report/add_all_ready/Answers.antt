use Rattle.json_line.specs.Adding.{adds_same, adds_then, flat_more}
use Rattle.report_json.specs.Report.{ready_tokens}
use Rattle.report_json.proofs.report.add_all_ready.Goals as goal

pub loop-item-preserved : goal.loop-item-preserved
loop-item-preserved c =
    adds_same (adds_then c.loop-item.invariant c.in_ok-add_ready.ensures)
    (flat_more ready_tokens c.args.items.now c.loop-item.item-index _ c.loop-item-test.true)
