use Rattle.std.proofs.Common.{length}
use Rattle.byte_ends.specs.Lines.{lines_of}
use Rattle.key_file.proofs.Lists.{IsReading}
use Rattle.key_file.proofs.keys.read_keys.Given as goal

abbrev pub invariant-loop-line : goal.invariant-loop-line
invariant-loop-line l = IsReading (lines_of l.text) l.lines l.keys.items l.number

abbrev pub decreases-loop-line : goal.decreases-loop-line
decreases-loop-line l = length l.lines
