use Rattle.std.proofs.Common.{length}
use Rattle.site_journal.specs.Reading.{HasRead}
use Rattle.snapshot_text.specs.Going.{Goes}
use Rattle.site_journal.proofs.reading.Reading.take_lines.Given as goal

-- some of the block was read
abbrev pub invariant-loop-at : goal.invariant-loop-at
invariant-loop-at l =
    Goes (λ came. HasRead came l.fn.self.gathering l.fn.self.held.items l.fn.self.next)
    (λ came. HasRead came l.self.gathering l.self.held.items l.self.next) l.fn.block l.rest

abbrev pub decreases-loop-at : goal.decreases-loop-at
decreases-loop-at l = length l.rest
