use Rattle.std.proofs.Common.{string_bytes}
use Rattle.console.specs.Refusals.{refusal_line}
use Rattle.console.specs.Showing.{error_output, shows_line}
use Rattle.console.proofs.showing.show_refusal.Goals as goal

pub returns : goal.returns
returns g c =
    let old = error_output (g.E.Drain.taken c.args.errors.now) (g.E.Drain.failed c.args.errors.now) in
    let new = error_output (g.E.Drain.taken c.show_line.new.errors) (g.E.Drain.failed c.show_line.new.errors) in
    shows_line (λ made. string_bytes made) c.line.result
    (refusal_line c.args.refusal.now) old new c.line.ensures c.show_line.ensures
