use Rattle.std.proofs.Common.{◌≡◌, ◌++◌, map, drop, string_bytes}
use Rattle.gate_check.specs.Asking.{approval_lines, by_place}
use Rattle.gate_check.proofs.asking.add_approvals.Given as goal

-- the lines so far, and those that are left
abbrev pub invariant-loop-place : goal.invariant-loop-place
invariant-loop-place l =
    map string_bytes l.lines.items ++ by_place (approval_lines l.gate l.side) l.place (drop l.place l.approvals)
    ≡ map string_bytes l.fn.lines.items ++ by_place (approval_lines l.gate l.side) 0 l.approvals
