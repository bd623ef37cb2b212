use Rattle.gate_rules.proofs.Trials.{is_had, is_tried}
use Rattle.gate_rules.proofs.laws.each_condition_is_tried.Goals as goal

pub returns : goal.returns
returns c = λ gate standing tried. (is_had gate standing tried, is_tried gate standing tried)
