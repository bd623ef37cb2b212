use Rattle.std.proofs.Common.{◌≡◌, flat_map, take}
use Rattle.report_text.specs.Pages.{PassesPage}
use Rattle.report_text.specs.Report.{ready_line}
use Rattle.report_text.proofs.report.write_ready.Given as goal

-- the lines so far have passed, and no call failed
abbrev pub invariant-loop-item : goal.invariant-loop-item
invariant-loop-item g l = record {
  passes : PassesPage (g.D.Drain.taken l.initial.drain) l.initial.page.bytes (g.D.Drain.taken l.drain) l.page.bytes
      (flat_map ready_line (take l.item-index l.items));
  none_failed : g.D.Drain.failed l.drain ≡ g.D.Drain.failed l.initial.drain;
}
