use Rattle.site_port.proofs.OneReply.{one_reply}
use Rattle.site_port.proofs.laws.own_replies_are_one.Goals as goal

pub returns : goal.returns
returns c = λ old new other call reply again. one_reply c.verdicts_are_unique.ensures old new other call reply again
