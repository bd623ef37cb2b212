use Rattle.std.proofs.Common.{◌≡◌, ◌++◌, ℕ, List, None, length}
use Rattle.std.specs.Io.KnownBytes.{Consumes}
use Rattle.enqueue_lines.specs.Running.{GroupComes}
use Rattle.enqueue_lines.proofs.run.read_group.Given as goal

-- the lines so far have come
abbrev pub invariant-loop-line : goal.invariant-loop-line
invariant-loop-line g l = record {
  came : List ℕ;
  consumed : Consumes (g.S.Source.left l.initial.source) (g.S.Source.left l.source) came;
  comes : GroupComes (l.initial.reader.held ++ came) l.reader.held l.coming.lines.items l.coming.count None;
  many : length comes.lines ≡ l._line;
  none_unread : g.S.Source.failed l.source ≡ g.S.Source.failed l.initial.source;
  limit : l.reader.limit ≡ l.initial.reader.limit;
}
