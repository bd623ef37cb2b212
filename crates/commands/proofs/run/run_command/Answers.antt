use Rattle.commands.proofs.run.run_command.Goals as goal

pub returns : goal.returns
returns g c = (c.run_over-ended.result, c.run_over-ended.ensures, c.report.ensures)
