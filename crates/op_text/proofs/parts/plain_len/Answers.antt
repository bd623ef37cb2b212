use Rattle.op_text.proofs.Pieces.{plain_front}
use Rattle.op_text.proofs.parts.plain_len.Goals as goal

pub returns-clause-plain : goal.returns-clause-plain
returns-clause-plain c = plain_front c.args.text.now c.plain_end.result c.plain_end.ensures.within c.plain_end.ensures.plain
