use Rattle.std.proofs.Common.{◌++◌, false, sym, subst}
use Rattle.gossip_line.specs.Commands.{take_word}
use Rattle.gossip_line.specs.Steps.{IsSaid}
use Rattle.gossip_line.proofs.Answering.{unread_body}
use Rattle.gossip_line.proofs.step.take_step.Goals as goal

pub returns-in-Err : goal.returns-in-Err
returns-in-Err c =
    subst (IsSaid false (take_word ++ c.args.text.now)) (sym c.unread.ensures)
    (unread_body c.args.text.now c.in-Err.fault c.in-Err.ensures.only)
