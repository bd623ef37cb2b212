use Rattle.script_text.proofs.FieldLemmas.{no_split}
use Rattle.script_text.proofs.fields.split_field.Goals as goal

pub returns-in-None-clause-none : goal.returns-in-None-clause-none
returns-in-None-clause-none c = no_split c.args.fields.now c.in-None.ensures
