use Rattle.watch_core.specs.Watching.{Precedes}
use Rattle.watch_tests.proofs.random.play_parts.Given as goal

abbrev pub invariant-loop-update : goal.invariant-loop-update
invariant-loop-update l = Precedes l.evaluator l.replica
