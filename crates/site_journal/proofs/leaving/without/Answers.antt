use Rattle.std.proofs.Common.{ap, sym}
use Rattle.replica_core.specs.Journal.{has}
use Rattle.site_journal.proofs.Kept.{all_kept}
use Rattle.site_journal.proofs.leaving.without.Goals as goal

pub returns-then-is_nothing-clause-ok : goal.returns-then-is_nothing-clause-ok
returns-then-is_nothing-clause-ok c = λ op.
    ap (λ l. has l op)
    (sym (all_kept c.args.left_out.now (c.is_nothing.ensures c.if-is_nothing.true) c.args.replica))
