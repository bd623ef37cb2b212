use Rattle.command_tree.proofs.site_options.listening_command.Goals as goal

pub returns : goal.returns
returns c = c.with-3.ensures _ _ (c.with-2.ensures _ _ (c.with.ensures _ _ c.placed_command-placed.ensures c.several-listen.ensures) c.default_text-mode.ensures) c.option-keys.ensures
