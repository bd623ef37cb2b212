use Rattle.std.proofs.Common.{Result, subst}
use Rattle.sealed_link.specs.Lines.{OpensCame}
use Rattle.sealed_link.specs.declared.fault.WireFault.{WireFault}
use Rattle.sealed_link.proofs.OtherSide.{other_is_good, other_opens}
use Rattle.sealed_link.proofs.laws.what_is_sealed_is_opened.Goals as goal

pub returns-clause-opens : goal.returns-clause-opens
returns-clause-opens c = other_opens

pub returns-clause-none_is_bad : goal.returns-clause-none_is_bad
returns-clause-none_is_bad c = λ old new other after text added count sends result side came is.
    let bad = subst (λ (r : Result (Unit {0}) WireFault). OpensCame other sends.sent added r after) is came in
    other_is_good old new other text added count sends side bad.0
