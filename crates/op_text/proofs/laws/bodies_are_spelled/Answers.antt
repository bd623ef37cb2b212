use Rattle.op_text.proofs.Lines.{body_one_line, body_text_spells}
use Rattle.op_text.proofs.laws.bodies_are_spelled.Goals as goal

pub returns : goal.returns
returns c = record { line = body_one_line; spells = body_text_spells }
