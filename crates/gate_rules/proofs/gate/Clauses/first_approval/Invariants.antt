use Rattle.std.proofs.Common.{◌≢◌, ℕ, ◌+◌, ◌<◌, Some}
use Rattle.gate_rules.specs.declared.condition.Clause.TheVariants.{Approval}
use Rattle.gate_rules.specs.Own.{compared}
use Rattle.gate_rules.proofs.gate.Clauses.first_approval.Given as goal

-- no approval so far compares as wanted
abbrev pub invariant-loop-place : goal.invariant-loop-place
invariant-loop-place l =
    (number : ℕ) → number < l.place + 1 → compared l.fn.self l.fn.standing (Approval number) ≢ Some l.fn.wanted
