use Rattle.std.proofs.Common.{rules}
use Rattle.command_tree.specs.Rows.{rows_in}
use Rattle.command_line.proofs.Reading.{any_unread}
use Rattle.command_line.proofs.numbers.any_in.Goals as goal

pub returns-in_err-given : goal.returns-in_err-given
returns-in_err-given c =
    let number = c.args.number in
    search (rules, any_unread (rows_in c.args.values.now) number.name.now number.least number.most c.text.result c.is_none.result c.text.ensures c.is_none.ensures c.if-is_none.false c.in_err-given.ensures.found)
