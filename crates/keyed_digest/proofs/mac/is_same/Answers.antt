use Rattle.keyed_digest.proofs.Crossing.{one_more}
use Rattle.keyed_digest.proofs.mac.is_same.Goals as goal

pub loop-i-preserved : goal.loop-i-preserved
loop-i-preserved c = one_more c.loop-i.difference c.args.left.now c.args.right.now c.loop-i.i c.loop-i.invariant
