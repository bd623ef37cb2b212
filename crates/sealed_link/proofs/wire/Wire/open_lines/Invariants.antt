use Rattle.std.proofs.Common.{length}
use Rattle.sealed_link.proofs.Opens.{IsOpening}
use Rattle.sealed_link.proofs.wire.Wire.open_lines.Given as goal

-- the lines so far are opened, and their texts added
abbrev pub invariant-loop-piece : goal.invariant-loop-piece
invariant-loop-piece l = IsOpening l.initial.self l.came l.initial.into.items l.self l.into.items l.rest

abbrev pub decreases-loop-piece : goal.decreases-loop-piece
decreases-loop-piece l = length l.rest
