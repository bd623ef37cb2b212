use Rattle.std.proofs.Common.{arith}
use Rattle.enqueue_lines.proofs.Numbers.{read_back}
use Rattle.enqueue_lines.proofs.site_line.short_number.Goals as goal

pub returns : goal.returns
returns c = λ number fits is.
    read_back _ 32 number c.args.digits.now c.parse.result c.ok.result fits
    (omega (arith, fits)) is c.parse.ensures.value.0 c.ok.ensures.value
