use Rattle.std.proofs.Common.{◌≡◌, flat_map, take}
use Rattle.report_text.specs.Pages.{PassesPage}
use Rattle.report_changes.specs.Lines.{line_text}
use Rattle.report_changes.proofs.text.write_lines.Given as goal

-- the lines so far have passed, and no call failed
abbrev pub invariant-loop-line : goal.invariant-loop-line
invariant-loop-line g l = record {
  passes : PassesPage (g.D.Drain.taken l.initial.drain) l.initial.page.bytes (g.D.Drain.taken l.drain) l.page.bytes
      (flat_map line_text (take l.line-index l.lines));
  none_failed : g.D.Drain.failed l.drain ≡ g.D.Drain.failed l.initial.drain;
}
