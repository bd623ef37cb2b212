use Rattle.command_tree.proofs.program.graph_command.Goals as goal

pub returns : goal.returns
returns c = c.with-3.ensures _ _ (c.with-2.ensures _ _ (c.with.ensures _ _ c.of.ensures c.file.ensures) c.file-2.ensures) c.number_option-around.ensures
