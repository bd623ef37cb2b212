use Rattle.std.proofs.Common.{◌≡◌, ◌<◌, ◌≤◌, ℕ, length, slice_index, bit_or}
use Rattle.walk_core.proofs.block.Marks.joined.Given as goal

abbrev pub invariant-loop-index : goal.invariant-loop-index
invariant-loop-index l = record {
  size : length l.words ≡ 8;
  done : (k : ℕ) → k < l.index
      → slice_index l.words k ≡ bit_or (slice_index l.initial.words k) (slice_index l.other.words k);
  left : (k : ℕ) → l.index ≤ k → slice_index l.words k ≡ slice_index l.initial.words k;
}
