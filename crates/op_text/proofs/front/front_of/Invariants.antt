use Rattle.op_text.specs.Front.{SayFront}
use Rattle.op_text.proofs.front.front_of.Given as goal

-- the entries so far say the front
abbrev pub invariant-loop-site : goal.invariant-loop-site
invariant-loop-site l = SayFront l.yielded l.front
