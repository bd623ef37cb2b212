use Rattle.std.proofs.Common.{arith}
use Rattle.op_text.proofs.Pieces.{with_digit_is}
use Rattle.op_text.proofs.parts.with_digit.Goals as goal

pub returns : goal.returns
returns c = with_digit_is c.checked_add.result c.in_ok-checked_mul.field-0 c.from.result c.args.number c.args.digit
    c.checked_add.ensures c.in_ok-checked_mul.ensures.1 c.from.ensures (omega arith) c.requires
