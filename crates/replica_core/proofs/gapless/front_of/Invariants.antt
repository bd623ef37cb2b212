use Rattle.std.proofs.Common.{◌≡◌, fold}
use Rattle.replica_core.specs.Lines.{raised_by, front_of}
use Rattle.replica_core.proofs.gapless.front_of.Given as goal

abbrev pub invariant-loop-line : goal.invariant-loop-line
invariant-loop-line g l = fold raised_by l.front l.line-iterator ≡ front_of l.lines
