use Rattle.std.proofs.Common.{refl}
use Rattle.console.specs.Showing.{error_output}
use Rattle.recover_command.proofs.Unread.{not_opened}
use Rattle.recover_command.proofs.named.recover_named.Goals as goal

pub returns : goal.returns
returns g c =
    let left = g.I.Source.left c.args.input in
    let old = error_output (g.E.Drain.taken c.args.errors.now) (g.E.Drain.failed c.args.errors.now) in
    let new = error_output (g.E.Drain.taken c.report.new.errors) (g.E.Drain.failed c.report.new.errors) in
    (left, λ named. refl, not_opened c.args.left_out.now left (g.O.Drain.taken c.args.output.now) (g.O.Drain.failed c.args.output.now) old new c.report.result c.report.ensures)
