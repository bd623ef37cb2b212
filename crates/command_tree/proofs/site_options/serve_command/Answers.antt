use Rattle.command_tree.proofs.site_options.serve_command.Goals as goal

pub returns : goal.returns
returns c = c.with-3.ensures _ _ (c.with-2.ensures _ _ (c.with.ensures _ _ c.shown_command-shown.ensures c.option-load.ensures) c.option-save.ensures) c.option-journal.ensures
