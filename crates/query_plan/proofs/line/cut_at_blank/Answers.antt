use Rattle.query_plan.proofs.Texts.{cut_so}
use Rattle.query_plan.proofs.line.cut_at_blank.Goals as goal

pub returns : goal.returns
returns c = λ front rest lacks is. cut_so front rest c.args.text.now c.split_once.result c.split_once.ensures.cases
    lacks is
