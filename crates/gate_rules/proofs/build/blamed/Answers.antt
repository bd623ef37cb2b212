use Rattle.std.proofs.Common.{◌≡◌, inl, ap, is_some}
use Rattle.std.proofs.lemmas.Bool.{false≢true}
use Rattle.gate_rules.specs.declared.fault.GateFault.TheVariants.{BadBases}
use Rattle.gate_rules.proofs.build.blamed.Goals as goal

pub returns-in-Some-clause-item : goal.returns-in-Some-clause-item
returns-in-Some-clause-item c = λ bad flaw key h.
    let e = c.in-Some.ensures.only bad h in let same : c.in-Some.bad ≡ bad = cc in inl (ap BadBases same)

pub returns-in-None-clause-item : goal.returns-in-None-clause-item
returns-in-None-clause-item c = λ bad flaw key h. absurd (false≢true (ap is_some (c.in-None.ensures.only bad h)))
