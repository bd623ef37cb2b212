use Rattle.std.proofs.Common.{◌≡◌, ◌<◌, ◌≤◌, ◌+◌, ◌-◌, List, ℕ, length, vec_len}
use Rattle.std.specs.Io.KnownBytes.{Consumes}
use Rattle.snapshot_text.specs.Snapshot.{most_bytes}
use Rattle.snapshot_text.specs.Progress.{HasRead}
use Rattle.snapshot_text.proofs.read.gather_by.Given as goal

-- what came was read, and no read failed
abbrev pub invariant-loop-seen : goal.invariant-loop-seen
invariant-loop-seen g l = record {
  came : List ℕ;
  read : Consumes (g.S.Source.left l.initial.source) (g.S.Source.left l.source) came;
  seen : l.seen ≡ length came;
  has : HasRead l.fn.gathering came l.blocks;
  few : l.blocks.cutter.progress.count ≤ l.seen;
  most : l.seen ≤ most_bytes + 8388608;
  some : 0 < vec_len l.block;
  large : vec_len l.block ≤ 8388608;
  counted : g.S.Source.failed l.source ≡ g.S.Source.failed l.initial.source;
}

abbrev pub decreases-loop-seen : goal.decreases-loop-seen
decreases-loop-seen g l = (most_bytes + 1) - l.seen
