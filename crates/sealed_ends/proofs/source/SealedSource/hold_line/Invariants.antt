-- What is left, and ready, is as it was; no read failed, and what is held has no LF.
use Rattle.std.proofs.Common.{◌≡◌, ◌-◌, length}
use Rattle.std.specs.Io.KnownBytes.{Keeps}
use Rattle.line_reader.specs.Lines.{HasNoLf}
use Rattle.sealed_ends.specs.Opened.{left_of}
use Rattle.sealed_ends.proofs.source.SealedSource.hold_line.Given as goal

abbrev pub invariant-loop-self : goal.invariant-loop-self
invariant-loop-self g l =
    Keeps (left_of l.initial.self.ready.items l.initial.self.seal l.initial.self.held.items (g.S.Source.left l.initial.self.source))
    (left_of l.self.ready.items l.self.seal l.self.held.items (g.S.Source.left l.self.source))
    × (l.self.failures ≡ l.initial.self.failures)
    × (l.self.ready.items ≡ l.initial.self.ready.items)
    × HasNoLf l.self.held.items
    × (g.S.Source.failed l.self.source ≡ g.S.Source.failed l.initial.self.source)

abbrev pub decreases-loop-self : goal.decreases-loop-self
decreases-loop-self g l = 699097 - length l.self.held.items
