use Rattle.command_tree.proofs.program.why_command.Goals as goal

pub returns : goal.returns
returns c =
    c.with-5.ensures _ _ (c.with-4.ensures _ _ (c.with-3.ensures _ _ (c.with-2.ensures _ _ (c.with.ensures _ _ c.of.ensures c.file.ensures) c.file-2.ensures) c.file-item.ensures) c.flag-all.ensures)
    c.json_flag.ensures
