use Rattle.std.proofs.Common.{◌≡◌, length}
use Rattle.walk_tests.proofs.reaching.marks_of.Given as goal

abbrev pub invariant-loop-node : goal.invariant-loop-node
invariant-loop-node l = length l.marks.items ≡ l.nodes
