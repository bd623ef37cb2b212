use Rattle.command_tree.proofs.program.reading_commands.Goals as goal

pub returns : goal.returns
returns c = c.with_command-4.ensures _ _ (c.with_command-3.ensures _ _ (c.with_command-2.ensures _ _ (c.with_command.ensures _ _ c.judging_commands.ensures c.merge_command.ensures) c.footers_command.ensures) c.check_command.ensures) c.simulate_command.ensures
