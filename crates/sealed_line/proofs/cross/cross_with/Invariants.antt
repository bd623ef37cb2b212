-- The keys before a place are crossed.
use Rattle.sealed_line.proofs.Crosses.{IsCrossing}
use Rattle.sealed_line.proofs.cross.cross_with.Given as goal

abbrev pub invariant-loop-i : goal.invariant-loop-i
invariant-loop-i l = IsCrossing l.text l.initial.keys l.keys l.i
