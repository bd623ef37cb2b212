use Rattle.std.proofs.Common.{◌≡◌, ◌-◌, ◌≤◌, ℕ, length, slice_index, take}
use Rattle.std.specs.List.{Contains}
use Rattle.walk_core.specs.Marks.{AreBare, AreCountsElsewhere, LeadsToCount}
use Rattle.walk_core.proofs.counts.count_targets.Given as goal

-- the counts have come to the first targets
abbrev pub invariant-loop-start : goal.invariant-loop-start
invariant-loop-start g l = record {
  within : l.start ≤ length l.targets;
  rows : length l.rows.items ≡ length l.graph;
  bare : AreBare l.rows.items;
  counts : length l.counts.items ≡ length l.graph;
  each : (x : ℕ) → Contains l.nodes x
      → LeadsToCount l.graph (take l.start l.targets) x (slice_index l.counts.items (slice_index l.firsts x));
  elsewhere : AreCountsElsewhere l.firsts l.nodes l.initial.counts.items l.counts.items;
}

abbrev pub decreases-loop-start : goal.decreases-loop-start
decreases-loop-start g l = length l.targets - l.start
