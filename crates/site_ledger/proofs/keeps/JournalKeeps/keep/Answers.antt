use Rattle.std.proofs.Common.{List}
use Rattle.std.specs.Prelude.{IsOk}
use Rattle.review_ops.specs.Operation.{Operation}
use Rattle.site_journal.specs.Book.{IsHolding}
use Rattle.site_ledger.specs.Keeping.{Survive}
use Rattle.site_ledger.proofs.Crashes.{on_err, recovered_survives, still_known}
use Rattle.site_ledger.proofs.keeps.JournalKeeps.keep.Goals as goal

pub returns-clause-err : goal.returns-clause-err
returns-clause-err g c = on_err c.append.result
    ((before : List Operation) → IsHolding c.args.self.now before → Survive c.append.new.self before)
    (λ before holding. recovered_survives c.append.new.self.image before c.args.ops.now (IsOk c.append.result) (c.append.ensures.any_crash before holding))

pub returns-clause-known : goal.returns-clause-known
returns-clause-known g c = still_known c.args.self.now.image c.append.new.self.image c.append.ensures.known
