use Rattle.std.proofs.Common.{subst}
use Rattle.console.specs.Refusals.{refusal_line}
use Rattle.console.specs.Showing.{ShowsLine, error_output}
use Rattle.recover_command.proofs.recovering.show_fault.Goals as goal

pub returns-in-Journal : goal.returns-in-Journal
returns-in-Journal g c = rw c.in-Journal.is c.show_journal_fault.ensures

pub returns-in-Snapshot : goal.returns-in-Snapshot
returns-in-Snapshot g c =
    let old = error_output (g.E.Drain.taken c.args.errors.now) (g.E.Drain.failed c.args.errors.now) in
    let new = error_output (g.E.Drain.taken c.show_refusal.new.errors) (g.E.Drain.failed c.show_refusal.new.errors) in
    rw c.in-Snapshot.is
    (subst (λ refusal. ShowsLine (refusal_line refusal) old new) c.refusal_of.ensures c.show_refusal.ensures)
