use Rattle.std.proofs.Common.{◌<◌, ◌-◌, length}
use Rattle.sealed_link.specs.Lines.{SealsFront, SendsSealed}
use Rattle.sealed_link.proofs.wire.Wire.seal.Given as goal

-- the texts so far are sealed, and open to what they are
abbrev pub invariant-loop-more : goal.invariant-loop-more
invariant-loop-more l = record {
  seals : SealsFront l.fn.self l.text l.done l.self;
  sends : SendsSealed l.fn.self l.text l.done l.self;
  some : 0 < l.done;
}

abbrev pub decreases-loop-more : goal.decreases-loop-more
decreases-loop-more l = length l.text - l.done
