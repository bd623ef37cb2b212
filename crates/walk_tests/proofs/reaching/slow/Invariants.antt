use Rattle.std.proofs.Common.{◌≡◌, length}
use Rattle.walk_tests.proofs.reaching.slow.Given as goal

abbrev pub invariant-loop-round : goal.invariant-loop-round
invariant-loop-round l = length l.all.items ≡ length l.graph
