use Rattle.query_plan.proofs.Texts.{read_back}
use Rattle.query_plan.proofs.line.long_number.Goals as goal

pub returns : goal.returns
returns c = λ number fits is.
    read_back _ 64 number c.args.digits.now c.parse.result c.ok.result fits fits is c.parse.ensures.value.0 c.ok.ensures.value
