use Rattle.std.proofs.Common.{rules, flat_map}
use Rattle.report_changes.specs.Lines.{line_text}
use Rattle.report_text.specs.Report.{end_line}
use Rattle.report_text.specs.PageLaws.{Passes-room, cut_before, cut_in_last}
use Rattle.report_changes.proofs.text.write_some.Goals as goal

pub returns-in_err-make_room-clause-cut : goal.returns-in_err-make_room-clause-cut
returns-in_err-make_room-clause-cut g c =
    let lines = flat_map line_text c.args.lines.now in
    let whole = cut_before _ _ _ _ _ lines (end_line c.args.ready c.args.out) c.new-page.ensures c.in_ok-write_lines.ensures.ok c.in_err-make_room.ensures.err in
    search (rules, whole)

pub returns-in_err-send-clause-cut : goal.returns-in_err-send-clause-cut
returns-in_err-send-clause-cut g c =
    let lines = flat_map line_text c.args.lines.now in
    let roomy = Passes-room _ _ _ _ _ _ lines c.in_ok-write_lines.ensures.ok c.in_ok-make_room.ensures.ok in
    let whole = cut_in_last _ _ _ _ _ lines (end_line c.args.ready c.args.out) c.new-page.ensures roomy _ c.add_end.ensures c.in_err-send.ensures.err in
    search (rules, whole)
