use Rattle.op_text.specs.OneSpelling.{one_operation, one_body, one_front}
use Rattle.op_text.proofs.laws.texts_spell_once.Goals as goal

pub returns-clause-operation : goal.returns-clause-operation
returns-clause-operation c = one_operation

pub returns-clause-body : goal.returns-clause-body
returns-clause-body c = one_body

pub returns-clause-front : goal.returns-clause-front
returns-clause-front c = one_front
