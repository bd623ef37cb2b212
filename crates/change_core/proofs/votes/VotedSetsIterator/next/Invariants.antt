use Rattle.std.proofs.Common.{◌≡◌, length}
use Rattle.change_core.specs.Votes.{sets_among, first_of_each}
use Rattle.change_core.specs.Parts.{registers_shown}
use Rattle.change_core.proofs.votes.VotedSetsIterator.next.Given as goal

abbrev pub invariant-loop-slot : goal.invariant-loop-slot
invariant-loop-slot g l =
    first_of_each l.self-inside.last (sets_among (registers_shown l.self-inside.registers)) ≡ l.fn.self

abbrev pub decreases-loop-slot : goal.decreases-loop-slot
decreases-loop-slot g l = length l.self-inside.registers
