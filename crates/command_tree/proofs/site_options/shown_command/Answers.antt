use Rattle.command_tree.proofs.site_options.shown_command.Goals as goal

pub returns : goal.returns
returns c = c.with-2.ensures _ _ (c.with.ensures _ _ c.printing_command.ensures c.option-http.ensures) c.several-host.ensures
