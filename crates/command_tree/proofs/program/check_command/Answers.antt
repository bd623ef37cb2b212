use Rattle.command_tree.proofs.program.check_command.Goals as goal

pub returns : goal.returns
returns c = c.with-4.ensures _ _ (c.with-3.ensures _ _ (c.with-2.ensures _ _ (c.with.ensures _ _ c.of.ensures c.file.ensures) c.optional-snapshot.ensures) c.flag-strict.ensures) c.json_flag.ensures
