use Rattle.json_line.specs.Adding.{adds_same, adds_then, flat_more}
use Rattle.report_json.specs.Report.{out_tokens}
use Rattle.report_json.proofs.report.add_all_out.Goals as goal

pub loop-one-preserved : goal.loop-one-preserved
loop-one-preserved c =
    adds_same (adds_then c.loop-one.invariant c.in_ok-add_out.ensures)
    (flat_more out_tokens c.args.left.now c.loop-one.one-index _ c.loop-one-test.true)
