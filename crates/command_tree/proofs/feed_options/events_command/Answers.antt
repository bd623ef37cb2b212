use Rattle.command_tree.proofs.feed_options.events_command.Goals as goal

pub returns : goal.returns
returns c = c.with-3.ensures _ _ (c.with-2.ensures _ _ (c.with.ensures _ _ c.feeding_command-feeding.ensures c.several-project.ensures) c.option-projects.ensures) c.option-gate.ensures
