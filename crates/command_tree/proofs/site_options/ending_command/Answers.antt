use Rattle.command_tree.proofs.site_options.ending_command.Goals as goal

pub returns : goal.returns
returns c = c.with-3.ensures _ _ (c.with-2.ensures _ _ (c.with.ensures _ _ c.paced_command-paced.ensures c.default_option-idle.ensures) c.default_option-connections.ensures) c.flag-ending.ensures
