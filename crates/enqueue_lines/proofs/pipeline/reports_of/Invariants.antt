use Rattle.std.proofs.Common.{◌≡◌, take, flat_map}
use Rattle.enqueue_lines.specs.Printing.{report_line, pipe_shown}
use Rattle.enqueue_lines.proofs.pipeline.reports_of.Given as goal

-- what is written for the items so far
abbrev pub invariant-loop-item : goal.invariant-loop-item
invariant-loop-item l = l.text.items ≡ flat_map (report_line (pipe_shown l.pipeline)) (take l.item-index l.items)
