use Rattle.std.proofs.Common.{string_bytes, subst}
use Rattle.console.specs.Showing.{ShowsLine, error_output, shows_line}
use Rattle.serve_command.specs.LateClock.{late_clock_line}
use Rattle.serve_command.proofs.late_clock.show_late_clock.Goals as goal

pub returns-then-latest-gt-HALF-clause-late : goal.returns-then-latest-gt-HALF-clause-late
returns-then-latest-gt-HALF-clause-late g c = λ late.
    let old = error_output (g.E.Drain.taken c.args.errors.now) (g.E.Drain.failed c.args.errors.now) in
    let new = error_output (g.E.Drain.taken c.show_line.new.errors) (g.E.Drain.failed c.show_line.new.errors) in
    subst (λ latest. ShowsLine (late_clock_line latest) old new) c.latest_time-latest.ensures
    (shows_line (λ made. string_bytes made) c.late_clock_line.result
    (late_clock_line c.latest_time-latest.result) old new c.late_clock_line.ensures c.show_line.ensures)
