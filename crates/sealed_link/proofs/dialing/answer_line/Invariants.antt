use Rattle.std.proofs.Common.{◌≡◌, ◌-◌, length}
use Rattle.std.specs.Io.KnownBytes.{Consumes}
use Rattle.line_reader.specs.Lines.{HasNoLf}
use Rattle.sealed_link.proofs.dialing.answer_line.Given as goal

-- what was read is held, and has no LF; no read failed
abbrev pub invariant-loop-source : goal.invariant-loop-source
invariant-loop-source g l =
    Consumes (g.S.Source.left l.initial.source) (g.S.Source.left l.source) l.line.items
    × HasNoLf l.line.items
    × (g.S.Source.failed l.source ≡ g.S.Source.failed l.initial.source)

abbrev pub decreases-loop-source : goal.decreases-loop-source
decreases-loop-source g l = 257 - length l.line.items
