use Rattle.command_tree.proofs.site_options.paced_command.Goals as goal

pub returns : goal.returns
returns c = c.with-3.ensures _ _ (c.with-2.ensures _ _ (c.with.ensures _ _ c.guarded_command-guarded.ensures c.default_option-workers.ensures) c.default_option-pause.ensures) c.default_option-sessions.ensures
