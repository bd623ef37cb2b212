use Rattle.std.proofs.Common.{◌≡◌, ◌∷◌, [], ap, if◌then◌else◌, subst}
use Rattle.std.specs.Prelude.{OnOk}
use Rattle.replica_core.specs.Journal.{has}
use Rattle.site_shared.specs.Accounts.{holding, record_of}
use Rattle.site_ledger.proofs.ledger.Ledger.hold_new.Goals as goal

pub returns-clause-ok : goal.returns-clause-ok
returns-clause-ok g c = subst
    (λ account. OnOk c.hold_new.result (c.hold_new.new.self ≡ (if has (record_of account) c.args.op then account else holding account (c.args.op ∷ []))))
    (ap (λ entries. entries.account) c.self.view_is) c.hold_new.ensures.ok
