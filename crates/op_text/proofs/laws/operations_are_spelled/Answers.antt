use Rattle.op_text.proofs.Lines.{operation_one_line, operation_text_spells}
use Rattle.op_text.proofs.laws.operations_are_spelled.Goals as goal

pub returns : goal.returns
returns c = record { line = operation_one_line; spells = operation_text_spells }
