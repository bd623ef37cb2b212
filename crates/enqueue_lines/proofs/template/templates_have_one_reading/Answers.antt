use Rattle.enqueue_lines.proofs.Readings.{one_reading}
use Rattle.enqueue_lines.proofs.template.templates_have_one_reading.Goals as goal

pub returns : goal.returns
returns c = λ whole parts others reads other values. one_reading values whole parts others reads other
