use Rattle.std.proofs.Common.{subst, sym}
use Rattle.snapshot_text.specs.Reading.{IsLineFault}
use Rattle.snapshot_text.proofs.Reading.{line_refused}
use Rattle.snapshot_text.proofs.progress.take_op.Goals as goal

pub returns-in-Err-clause-err : goal.returns-in-Err-clause-err
returns-in-Err-clause-err c =
    subst (IsLineFault c.args.line.now c.args.number) (sym c.line_fault.ensures)
    (line_refused c.args.line.now c.args.number c.in-Err.cause c.in-Err.ensures.refused (λ op spells. c.in-Err.ensures.only op spells))
