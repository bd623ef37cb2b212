use Rattle.std.proofs.Common.{◌≡◌, ◌++◌}
use Rattle.std.specs.Prelude.{map}
use Rattle.replica_core.proofs.gathering.by_change.Given as goal

-- the first of them are there, and the others are left
abbrev pub invariant-loop-op : goal.invariant-loop-op
invariant-loop-op g l = map (λ one. one.1.now) l.sorted.items ++ l.op-iterator ≡ l.initial.op-iterator
