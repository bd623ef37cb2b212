use Rattle.std.proofs.Common.{◌≡◌, ◌++◌, take, decimal}
use Rattle.op_text.proofs.parts.longer.Given as goal

abbrev pub invariant-loop-i : goal.invariant-loop-i
invariant-loop-i l = decimal l.front ++ take l.i l.text ≡ decimal l.number
