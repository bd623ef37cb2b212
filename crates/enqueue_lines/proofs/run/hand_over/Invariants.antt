use Rattle.std.proofs.Common.{◌≡◌}
use Rattle.enqueue_lines.specs.Ending.{site_line_limit}
use Rattle.enqueue_lines.specs.Printing.{pipe_shown}
use Rattle.enqueue_lines.proofs.Ends.{ends_of}
use Rattle.enqueue_lines.proofs.HandingOver.{SoFar}
use Rattle.enqueue_lines.proofs.run.hand_over.Given as goal

-- the groups so far were handed over
abbrev pub invariant-loop-group : goal.invariant-loop-group
invariant-loop-group g l = record {
  handed : SoFar (pipe_shown l.pipeline) l.fn.earlier
      (ends_of g.S.Source g.O.Drain g.E.Drain l.initial.source l.initial.output l.initial.errors)
      (ends_of g.S.Source g.O.Drain g.E.Drain l.source l.output l.errors)
      l.reader.held l.handing l.number l._group;
  limit : l.reader.limit ≡ site_line_limit;
}
