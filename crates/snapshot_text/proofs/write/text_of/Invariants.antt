use Rattle.std.proofs.Common.{◌≡◌, ◌++◌, map, take}
use Rattle.std.specs.Prelude.{codes}
use Rattle.byte_ends.specs.Lines.{as_line}
use Rattle.snapshot_text.specs.Snapshot.{operation_lines}
use Rattle.snapshot_text.specs.Sound.{AreSoundOperations}
use Rattle.snapshot_text.proofs.write.text_of.Given as goal

-- the header and the lines of the operations so far, each of which is sound
abbrev pub invariant-loop-op : goal.invariant-loop-op
invariant-loop-op l = record {
  written : l.text.items
      ≡ as_line (codes "reviewgate 2") ++ operation_lines (map (λ op. op.now) (take l.op-index l.ops));
  sound : AreSoundOperations (map (λ op. op.now) (take l.op-index l.ops));
}
