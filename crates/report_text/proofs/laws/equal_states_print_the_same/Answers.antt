use Rattle.std.proofs.Common.{ap}
use Rattle.report_text.specs.StateText.{state_text}
use Rattle.report_text.proofs.laws.equal_states_print_the_same.Goals as goal

pub returns : goal.returns
returns c = λ state other same. record {
  states = same;
  texts = ap state_text same;
  reports = λ gate verdicts others are others_are. c.equal_states_print_equal_reports.ensures gate state other verdicts others same are others_are;
}
