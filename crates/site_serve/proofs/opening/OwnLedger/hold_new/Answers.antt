use Rattle.std.proofs.Common.{ap, subst}
use Rattle.replica_core.specs.JournalLaws.{IsPartOf}
use Rattle.site_shared.specs.Accounts.{record_of}
use Rattle.site_serve.proofs.Held.{new_grows, new_has}
use Rattle.site_serve.proofs.opening.OwnLedger.hold_new.Goals as goal

pub returns-clause-grows : goal.returns-clause-grows
returns-clause-grows g c =
    subst (λ account. IsPartOf (record_of account) (record_of c.hold_new.new.self.account))
    (ap (λ entries. entries.account) c.self.view_is)
    (new_grows c.self.inside.ledger c.hold_new.new.self c.args.op c.hold_new.result c.hold_new.ensures.ok c.hold_new.ensures.err)

pub returns-clause-has : goal.returns-clause-has
returns-clause-has g c = new_has c.self.inside.ledger c.hold_new.new.self c.args.op c.hold_new.result c.hold_new.ensures.ok
