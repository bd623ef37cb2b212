use Rattle.std.proofs.Common.{rules, refl, ◌∙◌}
use Rattle.report_text.specs.Report.{ready_line}
use Rattle.report_text.specs.PageLaws.{line_added, lines_cut}
use Rattle.report_text.proofs.report.write_ready.Goals as goal

pub returns-in_err-make_room-clause-err : goal.returns-in_err-make_room-clause-err
returns-in_err-make_room-clause-err g c =
    let cut = lines_cut ready_line c.args.items.now c.loop-item.item-index _ _ _ _ _ c.loop-item.invariant.passes c.in_err-make_room.ensures.err in
    search (rules, cut)

pub loop-item-preserved : goal.loop-item-preserved
loop-item-preserved g c = record {
  passes = line_added ready_line c.args.items.now c.loop-item.item-index _ _ _ _ _ c.loop-item.invariant.passes _ _ _ _ c.loop-item-test.true refl c.in_ok-make_room.ensures.ok c.add_ready.ensures;
  none_failed = c.in_ok-make_room.ensures.counted ∙ c.loop-item.invariant.none_failed;
}
