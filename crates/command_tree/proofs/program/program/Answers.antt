use Rattle.command_tree.proofs.program.program.Goals as goal

pub returns : goal.returns
returns c =
    let serving = c.with_command-serving.ensures _ _ (c.with_command.ensures _ _ c.reading_commands-reading.ensures c.serve_command.ensures) c.recover_command.ensures in
    c.with_command-feeding.ensures _ _ (c.with_command-3.ensures _ _ (c.with_command-2.ensures _ _ serving c.events_command.ensures) c.queries_command.ensures) c.enqueue_command.ensures
