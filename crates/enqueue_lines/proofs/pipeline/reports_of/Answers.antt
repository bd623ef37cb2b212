use Rattle.std.proofs.Common.{◌∙◌, ap, sym, flat_map, take}
use Rattle.std.proofs.lemmas.List.{take_more}
use Rattle.std.proofs.lemmas.List.Concat.{flat_map-append}
use Rattle.enqueue_lines.specs.Printing.{report_line, pipe_shown}
use Rattle.enqueue_lines.proofs.Adding.{one_more}
use Rattle.enqueue_lines.proofs.pipeline.reports_of.Goals as goal

pub loop-item-preserved : goal.loop-item-preserved
loop-item-preserved c =
    one_more (report_line (pipe_shown c.args.pipeline.now)) c.args.items.now c.loop-item.item-index _ _ _ c.loop-item-test.true c.loop-item.invariant c.in_ok-add_report.ensures
