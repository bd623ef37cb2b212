use Rattle.std.proofs.Common.{sym, ◌∙◌, arith}
use Rattle.snapshot_text.proofs.Numerals.{below_20, no_numeral, one_more_digit}
use Rattle.snapshot_text.proofs.end_line.number.Goals as goal

pub returns-then-not-is_ascii_digit : goal.returns-then-not-is_ascii_digit
returns-then-not-is_ascii_digit c =
    no_numeral c.args.digits.now c.loop-digit.digit-index c.loop-digit-test.true
    (sym c.is_ascii_digit.ensures.value ∙ c.if-not-is_ascii_digit.true)

pub overflow_mul-number : goal.overflow_mul-number
overflow_mul-number c =
    omega (arith, below_20 c.args.digits.now c.loop-digit.digit-index c.loop-digit.number c.requires c.loop-digit.auto.digit-index-end c.loop-digit.invariant.0 c.loop-digit.invariant.1)

pub overflow_add-number : goal.overflow_add-number
overflow_add-number c =
    omega (
      arith,
      below_20 c.args.digits.now c.loop-digit.digit-index c.loop-digit.number c.requires c.loop-digit.auto.digit-index-end c.loop-digit.invariant.0 c.loop-digit.invariant.1,
      c.from.ensures,
      c.type_inv.digits c.loop-digit.digit-index,
    )

pub loop-digit-preserved : goal.loop-digit-preserved
loop-digit-preserved c =
    one_more_digit c.args.digits.now c.loop-digit.digit-index c.loop-digit.number c.from.result c.loop-digit-test.true
    (sym c.is_ascii_digit.ensures.value ∙ c.if-not-is_ascii_digit.false) c.from.ensures c.loop-digit.invariant.0 c.loop-digit.invariant.1
