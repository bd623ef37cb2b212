use Rattle.command_tree.proofs.site_options.guarded_command.Goals as goal

pub returns : goal.returns
returns c = c.with.ensures _ _ c.listening_command.ensures c.several_of-sites.ensures
