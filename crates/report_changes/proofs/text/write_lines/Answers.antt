use Rattle.std.proofs.Common.{rules, refl, ◌∙◌}
use Rattle.report_changes.specs.Lines.{line_text}
use Rattle.report_text.specs.PageLaws.{line_added, lines_cut}
use Rattle.report_changes.proofs.text.write_lines.Goals as goal

pub returns-in_err-make_room-clause-err : goal.returns-in_err-make_room-clause-err
returns-in_err-make_room-clause-err g c =
    let cut = lines_cut line_text c.args.lines.now c.loop-line.line-index _ _ _ _ _ c.loop-line.invariant.passes c.in_err-make_room.ensures.err in
    search (rules, cut)

pub loop-line-preserved : goal.loop-line-preserved
loop-line-preserved g c = record {
  passes = line_added line_text c.args.lines.now c.loop-line.line-index _ _ _ _ _ c.loop-line.invariant.passes _ _ _ _ c.loop-line-test.true refl c.in_ok-make_room.ensures.ok c.add_line.ensures;
  none_failed = c.in_ok-make_room.ensures.counted ∙ c.loop-line.invariant.none_failed;
}
