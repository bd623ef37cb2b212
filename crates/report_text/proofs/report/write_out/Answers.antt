use Rattle.std.proofs.Common.{rules, refl, ◌∙◌}
use Rattle.report_text.specs.Report.{out_line}
use Rattle.report_text.specs.PageLaws.{line_added, lines_cut}
use Rattle.report_text.proofs.report.write_out.Goals as goal

pub returns-in_err-make_room-clause-err : goal.returns-in_err-make_room-clause-err
returns-in_err-make_room-clause-err g c =
    let cut = lines_cut out_line c.args.out.now c.loop-left.left-index _ _ _ _ _ c.loop-left.invariant.passes c.in_err-make_room.ensures.err in
    search (rules, cut)

pub loop-left-preserved : goal.loop-left-preserved
loop-left-preserved g c = record {
  passes = line_added out_line c.args.out.now c.loop-left.left-index _ _ _ _ _ c.loop-left.invariant.passes _ _ _ _ c.loop-left-test.true refl c.in_ok-make_room.ensures.ok c.add_out.ensures;
  none_failed = c.in_ok-make_room.ensures.counted ∙ c.loop-left.invariant.none_failed;
}
