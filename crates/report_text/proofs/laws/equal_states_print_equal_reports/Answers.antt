use Rattle.std.proofs.Common.{ap, subst}
use Rattle.ready_core.specs.Verdicts.{AreVerdicts}
use Rattle.report_text.specs.Report.{report_of}
use Rattle.report_text.proofs.laws.equal_states_print_equal_reports.Goals as goal

pub returns : goal.returns
returns c = λ gate state other verdicts others same are others_are.
    ap report_of (c.verdicts_are_unique.ensures gate other verdicts others (subst (λ s. AreVerdicts gate s verdicts) same are) others_are)
