use Rattle.std.proofs.Common.{◌≡◌, ◌<◌, ◌≤◌, ℕ, length, slice_index}
use Rattle.std.specs.Option.{unwrap_or}
use Rattle.walk_core.specs.Sums.{option_at}
use Rattle.walk_core.proofs.leads.put_sums.Given as goal

abbrev pub invariant-loop-node : goal.invariant-loop-node
invariant-loop-node g l = record {
  size : length l.counts.items ≡ length l.initial.counts.items;
  put : (x : ℕ) → x < l.node
      → slice_index l.counts.items x ≡ unwrap_or (option_at l.sums x) (slice_index l.initial.counts.items x);
  left : (x : ℕ) → l.node ≤ x → slice_index l.counts.items x ≡ slice_index l.initial.counts.items x;
}
