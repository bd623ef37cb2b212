use Rattle.op_text.proofs.Once.{operation_is_read}
use Rattle.op_text.proofs.read.read_op.Goals as goal

pub returns-clause-only : goal.returns-clause-only
returns-clause-only c = operation_is_read (λ op. op) c.args.bytes.now c.spelled_operation.result c.spelled_operation.ensures.spelled c.spelled_operation.ensures.refused
