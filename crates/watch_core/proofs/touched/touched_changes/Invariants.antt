use Rattle.std.proofs.Common.{◌≡◌, ◌||◌, ℕ}
use Rattle.std.specs.Ordering.{nat_cmp}
use Rattle.std.specs.BTreeSet.{contains}
use Rattle.watch_core.specs.Touched.{touches}
use Rattle.watch_core.proofs.touched.touched_changes.Given as goal

-- the changes that are there and those of the operations that are left
abbrev pub invariant-loop-op : goal.invariant-loop-op
invariant-loop-op l = (number : ℕ)
    → (contains nat_cmp l.touched number || touches l.op-iterator number) ≡ touches l.initial.op-iterator number
