-- Two states that print the same: they are equal, and so are their state texts, and under each gate their reports.
use Rattle.std.specs.Prelude.{◌≡◌}
use Rattle.gate_rules.specs.Rules.{GateRules}
use Rattle.ready_core.specs.Verdicts.{AreVerdicts, Judged}
use Rattle.report_text.specs.Report.{report_of}
use Rattle.report_text.specs.StateText.{state_text}
use Rattle.state_core.specs.State.{State}

pub record PrintTheSame (state other : State) : Type 0 where
  pub states : state ≡ other
  pub texts : state_text state ≡ state_text other
  pub reports : (gate : GateRules) (verdicts others : Judged) → AreVerdicts gate state verdicts
      → AreVerdicts gate other others → report_of verdicts ≡ report_of others
