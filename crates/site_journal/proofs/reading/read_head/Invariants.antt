use Rattle.std.proofs.Common.{◌≡◌, ◌-◌, ◌≤◌, vec_len}
use Rattle.std.specs.Io.KnownBytes.{Consumes}
use Rattle.site_journal.proofs.reading.read_head.Given as goal

-- what was read so far, and no read failed
abbrev pub invariant-loop-piece : goal.invariant-loop-piece
invariant-loop-piece g l = record {
  read : Consumes (g.F.Feed.left l.initial.feed) (g.F.Feed.left l.feed) l.head.items;
  most : vec_len l.head ≤ 13;
  same : g.F.Feed.image l.feed ≡ g.F.Feed.image l.initial.feed;
  counted : g.F.Feed.failed l.feed ≡ g.F.Feed.failed l.initial.feed;
}

abbrev pub decreases-loop-piece : goal.decreases-loop-piece
decreases-loop-piece g l = 13 - vec_len l.head
