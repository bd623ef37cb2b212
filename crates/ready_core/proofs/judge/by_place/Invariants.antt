use Rattle.ready_core.specs.Causes.{AreJudgedBy}
use Rattle.ready_core.proofs.judge.by_place.Given as goal

abbrev pub invariant-loop-place : goal.invariant-loop-place
invariant-loop-place l = AreJudgedBy l.graph l.causes l.place l.ready.items l.out.items
