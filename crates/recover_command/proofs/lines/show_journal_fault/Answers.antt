use Rattle.std.proofs.Common.{string_bytes}
use Rattle.console.specs.Showing.{error_output, shows_line}
use Rattle.recover_command.specs.Lines.{journal_line}
use Rattle.recover_command.proofs.lines.show_journal_fault.Goals as goal

pub returns : goal.returns
returns g c =
    let old = error_output (g.E.Drain.taken c.args.errors.now) (g.E.Drain.failed c.args.errors.now) in
    let new = error_output (g.E.Drain.taken c.show_line.new.errors) (g.E.Drain.failed c.show_line.new.errors) in
    shows_line (λ made. string_bytes made) c.journal_line.result
    (journal_line c.args.fault.now) old new c.journal_line.ensures c.show_line.ensures
