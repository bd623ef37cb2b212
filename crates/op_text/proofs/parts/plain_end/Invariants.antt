use Rattle.json.specs.Written.{PlainBetween}
use Rattle.op_text.proofs.parts.plain_end.Given as goal

abbrev pub invariant-loop-i : goal.invariant-loop-i
invariant-loop-i l = PlainBetween l.text 0 l.i
