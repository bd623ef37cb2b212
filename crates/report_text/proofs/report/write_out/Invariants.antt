use Rattle.std.proofs.Common.{◌≡◌, flat_map, take}
use Rattle.report_text.specs.Pages.{PassesPage}
use Rattle.report_text.specs.Report.{out_line}
use Rattle.report_text.proofs.report.write_out.Given as goal

-- the lines so far have passed, and no call failed
abbrev pub invariant-loop-left : goal.invariant-loop-left
invariant-loop-left g l = record {
  passes : PassesPage (g.D.Drain.taken l.initial.drain) l.initial.page.bytes (g.D.Drain.taken l.drain) l.page.bytes
      (flat_map out_line (take l.left-index l.out));
  none_failed : g.D.Drain.failed l.drain ≡ g.D.Drain.failed l.initial.drain;
}
