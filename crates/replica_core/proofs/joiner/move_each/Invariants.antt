use Rattle.std.proofs.Common.{◌≡◌, ◌++◌, List}
use Rattle.std.specs.Prelude.{map}
use Rattle.review_ops.specs.Operation.{Operation}
use Rattle.state_core.specs.State.{state_of}
use Rattle.replica_core.proofs.joiner.move_each.Given as goal

-- the effects of those so far are joined
abbrev pub invariant-loop-op : goal.invariant-loop-op
invariant-loop-op g l = (before : List Operation) → l.initial.joining ≡ state_of before
    → l.joining ≡ state_of (before ++ map (λ one. one.1.now) l.yielded)
