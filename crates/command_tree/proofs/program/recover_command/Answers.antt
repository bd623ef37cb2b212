use Rattle.command_tree.proofs.program.recover_command.Goals as goal

pub returns : goal.returns
returns c = c.with-3.ensures _ _ (c.with-2.ensures _ _ (c.with.ensures _ _ c.of.ensures c.file-journal.ensures) c.several-without.ensures) c.number_option-until.ensures
