use Rattle.std.proofs.Common.{rules, ◌≡◌, subst}
use Rattle.console.specs.Refusals.{refusal_line}
use Rattle.console.specs.Showing.{Shows, error_output}
use Rattle.console.specs.declared.refusals.Refusal.TheVariants.{Memory}
use Rattle.console.proofs.showing.show_line.Goals as goal

pub returns-in-Err : goal.returns-in-Err
returns-in-Err g c =
    let old = error_output (g.E.Drain.taken c.args.errors.now) (g.E.Drain.failed c.args.errors.now) in
    let new = error_output (g.E.Drain.taken c.show-in-Err.new.errors) (g.E.Drain.failed c.show-in-Err.new.errors) in
    let is : c.as_bytes-in-Err.result.now ≡ refusal_line Memory = search rules in
    rw c.in-Err.is (subst (λ text. Shows text old new) is c.show-in-Err.ensures)
