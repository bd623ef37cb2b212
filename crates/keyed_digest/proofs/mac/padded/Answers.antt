use Rattle.std.proofs.Common.{arith, ◌≡◌}
use Rattle.keyed_digest.proofs.Pads.{padded_first, padded_last, padded_next}
use Rattle.keyed_digest.proofs.mac.padded.Goals as goal

pub loop-i-init : goal.loop-i-init
loop-i-init c = padded_first c.args.byte c.args.key.now

pub loop-i-preserved : goal.loop-i-preserved
loop-i-preserved c = padded_next c.args.byte c.args.key.now c.loop-i.block c.loop-i.i (omega arith) c.loop-i.invariant

pub returns : goal.returns
returns c =
    let all : c.loop-i.i ≡ 32 = omega arith in
    padded_last c.args.byte c.args.key.now c.loop-i.block c.told-key (rw all at c.loop-i.invariant)
