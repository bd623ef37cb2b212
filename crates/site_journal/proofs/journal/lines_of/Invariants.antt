use Rattle.std.proofs.Common.{◌≡◌, take}
use Rattle.snapshot_text.specs.Snapshot.{operation_lines}
use Rattle.snapshot_text.specs.Sound.{AreSoundOperations}
use Rattle.site_journal.specs.Text.{AreShort}
use Rattle.site_journal.proofs.journal.lines_of.Given as goal

-- the lines of the operations so far, each of which is sound and short
abbrev pub invariant-loop-op : goal.invariant-loop-op
invariant-loop-op l = record {
  written : l.lines.items ≡ operation_lines (take l.op-index l.ops);
  sound : AreSoundOperations (take l.op-index l.ops);
  short : AreShort (take l.op-index l.ops);
}
