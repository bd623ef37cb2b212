use Rattle.watch_core.specs.Watching.{Extends}
use Rattle.watch_tests.proofs.histories.take_all.Given as goal

abbrev pub invariant-loop-step : goal.invariant-loop-step
invariant-loop-step l = Extends l.initial.replica l.replica
