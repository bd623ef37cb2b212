use Rattle.gossip_line.proofs.OneAnswer.{unspelled_unsaid}
use Rattle.gossip_line.proofs.pull.add_operation.Goals as goal

pub returns-in-Err-clause-err : goal.returns-in-Err-clause-err
returns-in-Err-clause-err c =
    unspelled_unsaid c.args.line.now c.in-Some.text.now c.in-Err.fault c.in-Some.ensures.found c.in-Err.ensures.err
