use Rattle.std.proofs.Common.{Err, refl, subst, sym}
use Rattle.console.specs.Showing.{error_output}
use Rattle.console.specs.declared.refusals.Refusal.{Refusal}
use Rattle.commands.specs.Running.{Reports}
use Rattle.commands.proofs.ItemEnds.{refused_so}
use Rattle.commands.proofs.run.report_refusal.Goals as goal

pub returns-then-is_waiting : goal.returns-then-is_waiting
returns-then-is_waiting g c =
    let output = error_output (g.E.Drain.taken c.args.errors.now) (g.E.Drain.failed c.args.errors.now) in
    subst (λ (refusal : Refusal). Reports output output (Err refusal) 3) (sym c.if-is_waiting.ensures) (refl, refl)

pub returns : goal.returns
returns g c =
    refused_so c.args.refusal.now (error_output (g.E.Drain.taken c.args.errors.now) (g.E.Drain.failed c.args.errors.now))
    (error_output (g.E.Drain.taken c.show_refusal.new.errors) (g.E.Drain.failed c.show_refusal.new.errors)) c.if-is_waiting.ensures c.show_refusal.ensures
