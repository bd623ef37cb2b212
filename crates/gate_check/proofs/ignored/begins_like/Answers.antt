use Rattle.std.proofs.Common.{arith}
use Rattle.std.specs.Char.{to_ascii_lowercase}
use Rattle.gate_check.proofs.Missed.{is_longer, told_like}
use Rattle.gate_check.proofs.ignored.begins_like.Goals as goal

pub returns-then-text-start : goal.returns-then-text-start
returns-then-text-start c = λ begins.
    let longer = is_longer to_ascii_lowercase c.args.start.now c.args.text.now begins.0 begins.1 in omega arith

pub returns : goal.returns
returns c =
    told_like c.args.start.now c.args.text.now c.eq_ignore_ascii_case.result c.if-text-start.false c.eq_ignore_ascii_case.ensures.test
