use Rattle.std.proofs.Common.{◌≡◌, ◌++◌, drop, option_map}
use Rattle.gate_check.specs.Asking.{by_place}
use Rattle.gate_check.specs.Shown.{names_shown}
use Rattle.gate_check.specs.Warnings.{approval_warnings}
use Rattle.gate_check.proofs.finding.add_approvals.Given as goal

-- those so far, and those that are left
abbrev pub invariant-loop-number : goal.invariant-loop-number
invariant-loop-number l =
    l.found.items
    ++ by_place (approval_warnings l.gate (option_map (λ known. names_shown known.now) l.fn.names) l.side) l.number (drop l.number l.approvals)
    ≡ l.fn.found.items
    ++ by_place (approval_warnings l.gate (option_map (λ known. names_shown known.now) l.fn.names) l.side) 0 l.approvals
