use Rattle.query_plan.proofs.Agreeing.{agree_new, agree_on}
use Rattle.query_plan.proofs.laws.marks_say_what_waits.Goals as goal

pub returns : goal.returns
returns c = record { begins = agree_new; goes_on = agree_on }
