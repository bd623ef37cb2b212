use Rattle.std.proofs.Common.{◌≡◌, ◌++◌, map}
use Rattle.review_ops.specs.Deed.{change_of}
use Rattle.watch_core.proofs.reach.changes_of.Given as goal

-- the changes that are there and those of the operations that are left
abbrev pub invariant-loop-op : goal.invariant-loop-op
invariant-loop-op l =
    l.numbers.items ++ map (λ op. change_of op.deed) l.op-iterator ≡ map (λ op. change_of op.deed) l.initial.op-iterator
