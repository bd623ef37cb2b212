use Rattle.command_tree.specs.Rows.{rows_in}
use Rattle.command_line.proofs.Reading.{no_recover}
use Rattle.command_line.proofs.files.recover_in.Goals as goal

pub returns-in-None : goal.returns-in-None
returns-in-None c = no_recover (rows_in c.args.values.now) c.in-None.ensures
