use Rattle.std.proofs.Common.{◌≡◌, ◌++◌}
use Rattle.replica_core.proofs.line.copy_places.Given as goal

abbrev pub invariant-loop-place : goal.invariant-loop-place
invariant-loop-place g l = l.copied ++ l.place-iterator ≡ l.places
