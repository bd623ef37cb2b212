use Rattle.watch_core.specs.Watching.{Precedes}
use Rattle.watch_tests.proofs.histories.play_parts.Given as goal

abbrev pub invariant-loop-part : goal.invariant-loop-part
invariant-loop-part l = Precedes l.evaluator l.replica
