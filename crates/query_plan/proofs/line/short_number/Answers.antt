use Rattle.std.proofs.Common.{arith}
use Rattle.query_plan.proofs.Texts.{read_back}
use Rattle.query_plan.proofs.line.short_number.Goals as goal

pub returns : goal.returns
returns c = λ number fits is.
    read_back _ 32 number c.args.digits.now c.parse.result c.ok.result fits
    (omega (arith, fits)) is c.parse.ensures.value.0 c.ok.ensures.value
