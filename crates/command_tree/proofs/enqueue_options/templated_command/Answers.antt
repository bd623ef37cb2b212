use Rattle.command_tree.proofs.enqueue_options.templated_command.Goals as goal

pub returns : goal.returns
returns c = c.with-4.ensures _ _ (c.with-3.ensures _ _ (c.with-2.ensures _ _ (c.with.ensures _ _ c.of.ensures c.file-query.ensures) c.option-tenant.ensures) c.option-pipeline.ensures) c.default_text-template.ensures
