use Rattle.std.proofs.Common.{◌≡◌, ◌++◌, drop, flat_map}
use Rattle.gate_rules.specs.Own.{side_rules}
use Rattle.gate_rules.specs.Tried.{approvals_from, tried_by}
use Rattle.gate_rules.proofs.tried.add_approvals.Given as goal

-- what is tried so far, and what is left
abbrev pub invariant-loop-place : goal.invariant-loop-place
invariant-loop-place l =
    l.tried.items
    ++ flat_map (tried_by l.gate l.standing l.side) (approvals_from l.place (drop l.place (side_rules l.gate l.side).approvals))
    ≡ l.fn.tried.items ++ flat_map (tried_by l.gate l.standing l.side) (approvals_from 0 (side_rules l.gate l.side).approvals)
