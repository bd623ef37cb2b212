use Rattle.std.proofs.Common.{◌≡◌, ◌≤◌, ◌++◌, [], List, ℕ, length}
use Rattle.std.specs.Io.KnownBytes.{Consumes}
use Rattle.line_reader.specs.Lines.{HasNoLf}
use Rattle.line_reader.proofs.reader.LineReader.pass_over.Given as goal

-- what came so far has no LF, at least a byte of each block, and nothing is held; and no LF was held at first
abbrev pub invariant-loop-block : goal.invariant-loop-block
invariant-loop-block g l = record {
  came : List ℕ;
  read : Consumes (g.S.Source.left l.fn.source) (g.S.Source.left l.source) came;
  plain : HasNoLf (l.fn.self.held ++ came);
  none : l.self.held ≡ [];
  some : l._block ≤ length came;
  limit : l.self.limit ≡ l.fn.self.limit;
  counted : g.S.Source.failed l.source ≡ g.S.Source.failed l.fn.source;
}
