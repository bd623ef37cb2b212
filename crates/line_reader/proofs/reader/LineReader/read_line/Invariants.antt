use Rattle.std.proofs.Common.{◌≡◌, ◌++◌, ◌+◌, ◌-◌, List, ℕ, length}
use Rattle.std.specs.Io.KnownBytes.{Consumes}
use Rattle.line_reader.specs.Lines.{HasNoLf}
use Rattle.line_reader.proofs.reader.LineReader.read_line.Given as goal

-- what came is held, no LF among it, and no read failed
abbrev pub invariant-loop-self : goal.invariant-loop-self
invariant-loop-self g l =
    ((came : List ℕ) × Consumes (g.S.Source.left l.initial.source) (g.S.Source.left l.source) came × (l.self.held ≡ l.initial.self.held ++ came))
    × HasNoLf l.self.held
    × (l.self.limit ≡ l.initial.self.limit)
    × (g.S.Source.failed l.source ≡ g.S.Source.failed l.initial.source)

abbrev pub decreases-loop-self : goal.decreases-loop-self
decreases-loop-self g l = (l.self.limit + 1) - length l.self.held
