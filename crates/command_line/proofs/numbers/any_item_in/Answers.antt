use Rattle.std.proofs.Common.{rules}
use Rattle.command_tree.specs.Rows.{rows_in}
use Rattle.command_line.proofs.Reading.{any_item_unread}
use Rattle.command_line.proofs.numbers.any_item_in.Goals as goal

pub returns-in_err-item : goal.returns-in_err-item
returns-in_err-item c =
    search (rules, any_item_unread (rows_in c.args.values.now) c.text.result c.is_none.result c.text.ensures c.is_none.ensures c.if-is_none.false c.in_err-item.ensures)
