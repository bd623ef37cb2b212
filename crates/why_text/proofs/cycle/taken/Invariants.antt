use Rattle.why_text.specs.Cycle.{AreTaken}
use Rattle.why_text.proofs.cycle.taken.Given as goal

abbrev pub invariant-loop-place : goal.invariant-loop-place
invariant-loop-place l = AreTaken l.items l.itself l.behind l.ahead l.place l.others.items
