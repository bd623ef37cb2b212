use Rattle.watch_core.specs.Watching.{Extends}
use Rattle.watch_tests.proofs.random.take_some.Given as goal

abbrev pub invariant-loop-taken : goal.invariant-loop-taken
invariant-loop-taken l = Extends l.initial.replica l.replica
