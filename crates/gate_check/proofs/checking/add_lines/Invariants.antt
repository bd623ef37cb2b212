use Rattle.std.proofs.Common.{◌≡◌, ◌++◌, map, flat_map, take, string_bytes}
use Rattle.byte_ends.specs.Lines.{as_line}
use Rattle.gate_check.proofs.checking.add_lines.Given as goal

-- the lines so far
abbrev pub invariant-loop-line : goal.invariant-loop-line
invariant-loop-line l =
    string_bytes l.text ≡ string_bytes l.fn.text ++ flat_map as_line (map string_bytes (take l.line-index l.lines))
