use Rattle.gossip_line.proofs.OneAnswer.{unread_unspelled}
use Rattle.gossip_line.proofs.pull.read_operation.Goals as goal

pub returns-in-Err-clause-err : goal.returns-in-Err-clause-err
returns-in-Err-clause-err c =
    rw c.unread.ensures (unread_unspelled c.args.text.now c.in-Err.fault c.in-Err.ensures.only)
