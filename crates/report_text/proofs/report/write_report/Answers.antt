use Rattle.std.proofs.Common.{rules, ◌++◌, flat_map, length, refl}
use Rattle.report_text.specs.Report.{ready_line, out_line, end_line}
use Rattle.report_text.specs.PageLaws.{Passes-then, Passes-room, cut_before, cut_in_last, IsCut-more}
use Rattle.report_text.proofs.report.write_report.Goals as goal

pub returns-in_err-write_out-clause-cut : goal.returns-in_err-write_out-clause-cut
returns-in_err-write_out-clause-cut g c =
    let ready = flat_map ready_line c.ready-ready.result.now in
    let out = flat_map out_line c.out-out.result.now in
    let end = end_line (length c.ready-ready.result.now) (length c.out-out.result.now) in
    let cut = cut_in_last _ _ _ _ _ ready out c.new-page.ensures c.in_ok-write_ready.ensures.ok _ refl c.in_err-write_out.ensures.err in
    let whole = rw (c.ready-ready.ensures, c.out-out.ensures) at (IsCut-more _ _ (ready ++ out) end cut) in
    search (rules, whole)

pub returns-in_err-make_room-clause-cut : goal.returns-in_err-make_room-clause-cut
returns-in_err-make_room-clause-cut g c =
    let ready = flat_map ready_line c.ready-ready.result.now in
    let out = flat_map out_line c.out-out.result.now in
    let end = end_line (length c.ready-ready.result.now) (length c.out-out.result.now) in
    let both = Passes-then _ _ _ _ _ ready out c.in_ok-write_ready.ensures.ok _ c.in_ok-write_out.ensures.ok in
    let whole = rw (c.ready-ready.ensures, c.out-out.ensures) at (cut_before _ _ _ _ _ (ready ++ out) end c.new-page.ensures both c.in_err-make_room.ensures.err) in
    search (rules, whole)

pub returns-in_err-send-clause-cut : goal.returns-in_err-send-clause-cut
returns-in_err-send-clause-cut g c =
    let ready = flat_map ready_line c.ready-ready.result.now in
    let out = flat_map out_line c.out-out.result.now in
    let end = end_line (length c.ready-ready.result.now) (length c.out-out.result.now) in
    let both = Passes-then _ _ _ _ _ ready out c.in_ok-write_ready.ensures.ok _ c.in_ok-write_out.ensures.ok in
    let roomy = Passes-room _ _ _ _ _ _ (ready ++ out) both c.in_ok-make_room.ensures.ok in
    let whole = rw (c.ready-ready.ensures, c.out-out.ensures) at (cut_in_last _ _ _ _ _ (ready ++ out) end c.new-page.ensures roomy _ c.add_end.ensures c.in_err-send.ensures.err) in
    search (rules, whole)
