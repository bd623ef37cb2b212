use Rattle.std.proofs.Common.{sym, ◌∙◌}
use Rattle.op_text.proofs.Pieces.{decimal_is}
use Rattle.op_text.proofs.parts.decimal.Goals as goal

pub returns : goal.returns
returns c = decimal_is c.longer.result c.args.text.now c.in_ok-first.rest.now c.in_ok-first.first.now c.from.result
    c.in_ok-first.ensures.cases.0 c.from.ensures (sym c.is_ascii_digit.ensures.value ∙ c.if-not-is_ascii_digit.false) c.longer.ensures
