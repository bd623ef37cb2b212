use Rattle.std.proofs.Common.{◌≡◌, ◌++◌, List, ℕ, length}
use Rattle.line_batches.specs.Batches.{IsBatch}
use Rattle.line_batches.proofs.reading.read_in_turn.Given as goal

-- the operations are those of the lines so far, and the others are left
abbrev pub invariant-loop-at : goal.invariant-loop-at
invariant-loop-at l = (front : List ℕ) × (l.fn.lines ≡ front ++ l.rest) × IsBatch front l.ops.items

abbrev pub decreases-loop-at : goal.decreases-loop-at
decreases-loop-at l = length l.rest
