use Rattle.command_tree.proofs.site_options.placed_command.Goals as goal

pub returns : goal.returns
returns c = c.with-3.ensures _ _ (c.with-2.ensures _ _ (c.with.ensures _ _ c.peered_command-peered.ensures c.site_option.ensures) c.number_option-start.ensures) c.number_option-port.ensures
