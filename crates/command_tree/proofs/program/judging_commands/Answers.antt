use Rattle.command_tree.proofs.program.judging_commands.Goals as goal

pub returns : goal.returns
returns c = c.with_command-3.ensures _ _ (c.with_command-2.ensures _ _ (c.with_command.ensures _ _ c.bare_program.ensures c.ready_command.ensures) c.why_command.ensures) c.graph_command.ensures
