use Rattle.command_tree.proofs.query_options.queries_command.Goals as goal

pub returns : goal.returns
returns c = c.with-3.ensures _ _ (c.with-2.ensures _ _ (c.with.ensures _ _ c.of.ensures c.default_option-every.ensures) c.default_option-gather.ensures) c.default_option-pause.ensures
