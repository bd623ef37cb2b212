use Rattle.std.proofs.Common.{subst}
use Rattle.snapshot_text.specs.Progress.{Stands}
use Rattle.snapshot_text.proofs.Standing.{no_header, no_end}
use Rattle.snapshot_text.proofs.progress.Progress.end.Goals as goal

pub returns-in-Header-clause-err : goal.returns-in-Header-clause-err
returns-in-Header-clause-err c = λ base lines taken.
    no_header base lines c.args.self.gathering c.args.self.count (subst (λ s. Stands base lines s c.args.self.gathering c.args.self.count) c.in-Header.is taken)

pub returns-in-Operations-clause-err : goal.returns-in-Operations-clause-err
returns-in-Operations-clause-err c = λ base lines taken.
    no_end base lines c.args.self.gathering c.args.self.count (subst (λ s. Stands base lines s c.args.self.gathering c.args.self.count) c.in-Operations.is taken)
