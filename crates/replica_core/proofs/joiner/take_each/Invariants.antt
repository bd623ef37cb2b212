use Rattle.std.proofs.Common.{◌≡◌, ◌++◌, List, take}
use Rattle.std.specs.Prelude.{map}
use Rattle.review_ops.specs.Operation.{Operation}
use Rattle.state_core.specs.State.{state_of}
use Rattle.replica_core.proofs.joiner.take_each.Given as goal

-- the effects of the first of them are joined
abbrev pub invariant-loop-op : goal.invariant-loop-op
invariant-loop-op g l = (before : List Operation) → l.initial.joined ≡ state_of before
    → l.joined ≡ state_of (before ++ map (λ one. one.1.now) (take l.op-index l.fn.ops))
