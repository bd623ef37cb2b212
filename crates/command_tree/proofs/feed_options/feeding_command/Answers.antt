use Rattle.command_tree.proofs.feed_options.feeding_command.Goals as goal

pub returns : goal.returns
returns c =
    c.with-4.ensures _ _ (c.with-3.ensures _ _ (c.with-2.ensures _ _ (c.with.ensures _ _ c.of.ensures c.option-to.ensures) c.option-keys.ensures) c.flag-query.ensures)
    c.flag-complete.ensures
