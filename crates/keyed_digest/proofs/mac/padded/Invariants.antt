-- The bytes of the key so far are crossed, and the others are as zeros crossed.
use Rattle.keyed_digest.proofs.Pads.{IsPadded}
use Rattle.keyed_digest.proofs.mac.padded.Given as goal

abbrev pub invariant-loop-i : goal.invariant-loop-i
invariant-loop-i l = IsPadded l.byte l.key l.block l.i
