use Rattle.serve_command.proofs.Restarting.{survivors_are_answered}
use Rattle.serve_command.proofs.journal.begin.Goals as goal

pub returns-clause-survivors : goal.returns-clause-survivors
returns-clause-survivors g c =
    let law = c.journals_have_one_reading.ensures in
    survivors_are_answered law.one law.fresh (g.T.Feed.image c.args.tape) c.args.loaded c.open_and_add.result c.open_and_add.ensures.whole
