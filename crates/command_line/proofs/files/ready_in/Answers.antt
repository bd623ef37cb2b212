use Rattle.std.proofs.Common.{rules}
use Rattle.command_tree.specs.Rows.{rows_in}
use Rattle.command_line.proofs.Reading.{no_ready}
use Rattle.command_line.proofs.files.ready_in.Goals as goal

pub returns-in_err-any_item_in : goal.returns-in_err-any_item_in
returns-in_err-any_item_in c = search (rules, no_ready (rows_in c.args.values.now) c.in_err-any_item_in.ensures)
