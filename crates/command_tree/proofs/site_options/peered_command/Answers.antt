use Rattle.command_tree.proofs.site_options.peered_command.Goals as goal

pub returns : goal.returns
returns c = c.with-2.ensures _ _ (c.with.ensures _ _ c.of.ensures c.file.ensures) c.words-peers.ensures
