use Rattle.review_ops.specs.Draft.{deed_of}
use Rattle.op_text.proofs.Once.{body_is_read}
use Rattle.op_text.proofs.read.read_body.Goals as goal

pub returns-clause-only : goal.returns-clause-only
returns-clause-only c = body_is_read deed_of c.args.bytes.now c.spelled_body.result c.spelled_body.ensures.spelled c.spelled_body.ensures.refused
