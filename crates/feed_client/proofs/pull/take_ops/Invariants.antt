use Rattle.std.proofs.Common.{◌≡◌, ◌++◌, fold}
use Rattle.state_core.specs.State.{with_effect}
use Rattle.feed_client.proofs.pull.take_ops.Given as goal

-- those that were handed out are in, and the others are left
abbrev pub invariant-loop-op : goal.invariant-loop-op
invariant-loop-op l =
    (l.state ≡ fold with_effect l.initial.state l.yielded) × (l.fn.ops.items ≡ l.yielded ++ l.op-iterator.rest.items)
