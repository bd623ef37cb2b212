use Rattle.std.proofs.Common.{ap, subst}
use Rattle.replica_core.specs.JournalLaws.{IsPartOf}
use Rattle.review_ops.specs.Draft.{deed_of}
use Rattle.site_shared.specs.Accounts.{RefusesIntake, record_of}
use Rattle.site_serve.proofs.Held.{body_grows, body_has}
use Rattle.site_serve.proofs.opening.OwnLedger.hold.Goals as goal

pub returns-clause-has : goal.returns-clause-has
returns-clause-has g c =
    body_has (deed_of c.args.draft) c.self.inside.ledger c.hold.new.self c.hold.result c.hold.ensures.ok

pub returns-clause-grows : goal.returns-clause-grows
returns-clause-grows g c =
    subst (λ account. IsPartOf (record_of account) (record_of c.hold.new.self.account))
    (ap (λ entries. entries.account) c.self.view_is)
    (body_grows (deed_of c.args.draft) c.self.inside.ledger c.hold.new.self (λ fault. RefusesIntake c.self.inside.ledger.account (deed_of c.args.draft) fault c.self.inside.ledger.account)
    c.hold.result c.hold.ensures.ok c.hold.ensures.err)
