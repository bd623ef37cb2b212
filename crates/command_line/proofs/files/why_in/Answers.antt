use Rattle.std.proofs.Common.{rules}
use Rattle.command_tree.specs.Rows.{rows_in}
use Rattle.command_line.proofs.Reading.{no_why}
use Rattle.command_line.proofs.files.why_in.Goals as goal

pub returns-in_err-change : goal.returns-in_err-change
returns-in_err-change c = search (rules, no_why (rows_in c.args.values.now) c.in_err-change.ensures)
