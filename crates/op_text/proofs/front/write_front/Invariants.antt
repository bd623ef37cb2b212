use Rattle.op_text.proofs.FrontTexts.{IsWritten}
use Rattle.op_text.proofs.front.write_front.Given as goal

-- the items so far are those of the rows so far
abbrev pub invariant-loop-row : goal.invariant-loop-row
invariant-loop-row l = IsWritten l.front l.items.items l.row-iterator
