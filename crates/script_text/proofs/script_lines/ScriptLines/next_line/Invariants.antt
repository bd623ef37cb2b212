use Rattle.std.proofs.Common.{◌≡◌, ◌+◌, ◌^◌, ◌<◌, length}
use Rattle.script_text.specs.ScriptLines.{spoken_after}
use Rattle.script_text.proofs.script_lines.ScriptLines.next_line.Given as goal

-- the lines passed over say nothing
abbrev pub invariant-loop-line : goal.invariant-loop-line
invariant-loop-line l =
    record {
      same : spoken_after l.self-inside.number l.self-inside.lines ≡ l.fn.self;
      small : l.self-inside.number + length l.self-inside.lines < 2 ^ 64;
    }

abbrev pub decreases-loop-line : goal.decreases-loop-line
decreases-loop-line l = length l.self-inside.lines
