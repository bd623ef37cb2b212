use Rattle.std.proofs.Common.{◌≤◌, ◌+◌, ◌^◌, ◌++◌, ◌∷◌, [], sym, subst, arith}
use Rattle.site_journal.specs.Fault.{IsJournalRefusal}
use Rattle.site_journal.proofs.Steps.{not_read_at, read_line_at, too_many}
use Rattle.site_journal.proofs.reading.Reading.take_line.Goals as goal

pub returns-in-Err-clause-err : goal.returns-in-Err-clause-err
returns-in-Err-clause-err c = λ came read later.
    subst (IsJournalRefusal ((came ++ 10 ∷ []) ++ later)) (sym c.line_fault.ensures)
    (not_read_at came c.args.self.now.gathering c.args.self.now.held.items c.as_slice.result.now c.args.self.now.next c.in-Err.cause c.as_slice.ensures.value c.in-Err.ensures.refused c.in-Err.ensures.only read later)

pub returns-in_default-clause-err : goal.returns-in_default-clause-err
returns-in_default-clause-err c = λ came read later.
    let none = c.in_default.ensures in
    let many : 2 ^ 64 ≤ c.args.self.now.next + 1 = omega (arith, none) in
    too_many came c.args.self.now.gathering c.args.self.now.held.items c.args.self.now.next many read later

pub returns-clause-ok : goal.returns-clause-ok
returns-clause-ok c = λ came read.
    read_line_at came c.args.self.now.gathering c.args.self.now.held.items c.as_slice.result.now c.take.new.self c.clear.new.self.items c.in-Ok.op c.args.self.now.next c.in-Some.next
    c.as_slice.ensures.value c.in-Ok.ensures.spelled c.in_ok-take.ensures.ok c.clear.ensures.items c.in-Some.ensures.1 read
