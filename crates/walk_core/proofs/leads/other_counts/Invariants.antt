use Rattle.std.proofs.Common.{◌≡◌, ◌<◌, ℕ, length, map}
use Rattle.walk_core.specs.Digraphs.{ends_of}
use Rattle.walk_core.specs.Marks.{AreBare}
use Rattle.walk_core.proofs.Regional.{AreCountedTo, IsRegion}
use Rattle.walk_core.proofs.leads.other_counts.Given as goal

abbrev pub invariant-loop-label : goal.invariant-loop-label
invariant-loop-label g l = record {
  rows : length l.rows.items ≡ length l.graph;
  bare : AreBare l.rows.items;
  counts : length l.counts.items ≡ length l.graph;
  regions : (label : ℕ) → label < length l.graph → IsRegion l.graph l.firsts l.nodes l.targets l.labels.items label
      (ends_of (map (λ row. row.items) l.node_rows.items) label)
      (ends_of (map (λ row. row.items) l.target_rows.items) label);
  counted : AreCountedTo l.graph l.firsts l.nodes l.targets l.sums l.labels.items l.counts.items l.label;
}
