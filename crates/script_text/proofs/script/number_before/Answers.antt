use Rattle.script_text.proofs.Saying.{no_number}
use Rattle.script_text.proofs.script.number_before.Goals as goal

pub returns-in-None-clause-none : goal.returns-in-None-clause-none
returns-in-None-clause-none c = no_number c.args.fields.now c.in-Some.field.now c.in-Some.rest.now c.args.most c.in-Some.ensures.found c.in-None.ensures.none
