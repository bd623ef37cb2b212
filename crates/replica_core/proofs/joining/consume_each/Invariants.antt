use Rattle.std.proofs.Common.{◌≡◌}
use Rattle.std.specs.Prelude.{fold}
use Rattle.state_core.specs.State.{with_effect}
use Rattle.replica_core.proofs.joining.consume_each.Given as goal

-- the effects of those so far are joined
abbrev pub invariant-loop-op : goal.invariant-loop-op
invariant-loop-op g l = l.state ≡ fold with_effect l.initial.state l.yielded
