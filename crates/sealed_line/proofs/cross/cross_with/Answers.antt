use Rattle.std.proofs.Common.{◌≡◌, arith, length}
use Rattle.sealed_line.proofs.Crosses.{crossing_first, crossing_last, crossing_next}
use Rattle.sealed_line.proofs.cross.cross_with.Goals as goal

pub loop-i-init : goal.loop-i-init
loop-i-init c = crossing_first c.args.text.now c.args.keys.now

pub loop-i-preserved : goal.loop-i-preserved
loop-i-preserved c = crossing_next c.args.text.now c.args.keys.now c.loop-i.keys c.loop-i.i (omega arith) c.loop-i.invariant

pub returns : goal.returns
returns c =
    let all : c.loop-i.i ≡ length c.args.text.now = omega arith in
    crossing_last c.args.text.now c.args.keys.now c.loop-i.keys c.requires (rw all at c.loop-i.invariant)
