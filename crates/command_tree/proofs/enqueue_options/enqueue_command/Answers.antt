use Rattle.command_tree.proofs.enqueue_options.enqueue_command.Goals as goal

pub returns : goal.returns
returns c = c.with-2.ensures _ _ (c.with.ensures _ _ c.templated_command.ensures c.option-projects.ensures) c.option-handed.ensures
