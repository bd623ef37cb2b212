use Rattle.std.proofs.Common.{None, Some}
use Rattle.query_plan.proofs.Texts.{cut_so}
use Rattle.query_plan.proofs.line.first_and_rest.Goals as goal

pub returns-in-Some-clause-cut : goal.returns-in-Some-clause-cut
returns-in-Some-clause-cut c = λ front rest lacks is.
    cut_so front rest c.args.text.now (Some c.in-Some.parts) c.in-Some.ensures.cases lacks is

pub returns-in-None-clause-cut : goal.returns-in-None-clause-cut
returns-in-None-clause-cut c = λ front rest lacks is.
    absurd (cut_so front rest c.args.text.now None c.in-None.ensures.cases lacks is)
