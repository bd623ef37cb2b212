use Rattle.std.proofs.Common.{◌≡◌, ◌++◌}
use Rattle.replica_core.proofs.replica.copy_lines.Given as goal

abbrev pub invariant-loop-line : goal.invariant-loop-line
invariant-loop-line g l = l.copies ++ l.line-iterator ≡ l.lines
