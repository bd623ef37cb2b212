use Rattle.std.proofs.Common.{◌≡◌, length}
use Rattle.walk_tests.proofs.reaching.pass_from.Given as goal

abbrev pub invariant-loop-end : goal.invariant-loop-end
invariant-loop-end l = length l.marks.items ≡ length l.graph
