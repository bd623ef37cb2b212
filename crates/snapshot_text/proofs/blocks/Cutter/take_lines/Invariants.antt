use Rattle.std.proofs.Common.{◌+◌, ◌≤◌, List, length}
use Rattle.review_ops.specs.Operation.{Operation}
use Rattle.snapshot_text.specs.Progress.{HasCut}
use Rattle.snapshot_text.specs.Going.{Goes}
use Rattle.snapshot_text.proofs.blocks.Cutter.take_lines.Given as goal

-- some of the block was read, and no more lines were taken than it had bytes
abbrev pub invariant-loop-at : goal.invariant-loop-at
invariant-loop-at l = record {
  goes : (base : List Operation) → Goes (λ came. HasCut base came l.fn.self) (λ came. HasCut base came l.self) l.fn.block l.rest;
  few : l.self.progress.count + length l.rest ≤ l.fn.self.progress.count + length l.fn.block;
}

abbrev pub decreases-loop-at : goal.decreases-loop-at
decreases-loop-at l = length l.rest
