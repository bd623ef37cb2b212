use Rattle.command_tree.specs.Rows.{rows_in}
use Rattle.command_line.proofs.Reading.{no_queries}
use Rattle.command_line.proofs.queries.queries_in.Goals as goal

pub returns-in-None : goal.returns-in-None
returns-in-None c = no_queries (rows_in c.args.values.now) c.in-None.ensures
