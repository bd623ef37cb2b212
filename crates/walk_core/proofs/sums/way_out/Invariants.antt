use Rattle.std.proofs.Common.{◌≡◌, ℕ, slice_index, take}
use Rattle.std.specs.List.{Contains}
use Rattle.walk_core.proofs.sums.way_out.Given as goal

abbrev pub invariant-loop-end : goal.invariant-loop-end
invariant-loop-end l = (x : ℕ) → Contains (take l.end-index l.ends) x → slice_index l.firsts x ≡ l.first
