use Rattle.std.proofs.Common.{◌≡◌, ◌<◌, ◌≤◌, ◌+◌, ◌-◌, ◌++◌, List, ℕ, length, vec_len}
use Rattle.std.specs.Io.KnownBytes.{Consumes}
use Rattle.site_journal.specs.Fault.{most_text}
use Rattle.site_journal.specs.Reading.{HasRead}
use Rattle.site_journal.specs.Text.{header_line}
use Rattle.site_journal.proofs.reading.read_lines.Given as goal

-- what came was read, and no read failed
abbrev pub invariant-loop-seen : goal.invariant-loop-seen
invariant-loop-seen g l = record {
  came : List ℕ;
  read : Consumes (g.F.Feed.left l.initial.feed) (g.F.Feed.left l.feed) came;
  seen : l.seen ≤ length (header_line ++ came);
  exact : l.seen ≤ most_text → l.seen ≡ length (header_line ++ came);
  has : HasRead (header_line ++ came) l.reading.gathering l.reading.held.items l.reading.next;
  some : 0 < vec_len l.piece;
  large : vec_len l.piece ≤ 8388608;
  same : g.F.Feed.image l.feed ≡ g.F.Feed.image l.initial.feed;
  counted : g.F.Feed.failed l.feed ≡ g.F.Feed.failed l.initial.feed;
}

abbrev pub decreases-loop-seen : goal.decreases-loop-seen
decreases-loop-seen g l = (most_text + 1) - l.seen
