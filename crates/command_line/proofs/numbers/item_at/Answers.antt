use Rattle.command_tree.specs.Rows.{rows_in}
use Rattle.command_line.proofs.Reading.{item_found}
use Rattle.command_line.proofs.numbers.item_at.Goals as goal

pub returns : goal.returns
returns c =
    item_found (rows_in c.args.values.now) c.args.argument.now c.in_ok-text.field-0.now c.item_of.result c.in_ok-text.ensures c.item_of.ensures
