use Rattle.std.proofs.Common.{◌≡◌, take}
use Rattle.std.specs.Prelude.{map}
use Rattle.replica_core.proofs.gathering.each_by_change.Given as goal

-- the first of them are there
abbrev pub invariant-loop-op : goal.invariant-loop-op
invariant-loop-op g l = map (λ one. one.1.now) l.sorted.items ≡ take l.op-index l.fn.ops
