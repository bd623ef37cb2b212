use Rattle.std.proofs.Common.{◌-◌, ◌∙◌, ap, arith, length, subst, sym}
use Rattle.site_journal.specs.Reading.{HasRead}
use Rattle.site_journal.proofs.Steps.{read_found}
use Rattle.site_journal.proofs.reading.Reading.found.Goals as goal

pub returns-clause-found : goal.returns-clause-found
returns-clause-found g c = λ came read all.
    read_found came c.in_ok-replica.replica c.args.self.held.items c.args.self.next
    (c.args.seen - length c.as_slice-torn.result.now) (length c.as_slice-torn.result.now)
    (subst (λ journal. HasRead came journal c.args.self.held.items c.args.self.next)
    (sym (c.in_ok-replica.ensures ∙ c.in_ok-end.ensures)) read)
    (ap length c.as_slice-torn.ensures.value) (omega (arith, all, c.requires, ap length c.as_slice-torn.ensures.value))
