use Rattle.std.proofs.Common.{◌≡◌, take}
use Rattle.gate_rules.proofs.gate.Clauses.copy.Given as goal

-- the patterns so far
abbrev pub invariant-loop-pattern : goal.invariant-loop-pattern
invariant-loop-pattern l = l.approvals.items ≡ take l.pattern-index l.pattern-items
