use Rattle.command_tree.proofs.site_options.printing_command.Goals as goal

pub returns : goal.returns
returns c = c.with-2.ensures _ _ (c.with.ensures _ _ c.ending_command.ensures c.default_text-print.ensures) c.flag-times.ensures
