use Rattle.std.proofs.Common.{◌≡◌}
use Rattle.gate_rules.specs.Own.{some, matches}
use Rattle.gate_rules.proofs.own.Standing.meets.Given as goal

-- it is left to test the rest
abbrev pub invariant-loop-approval : goal.invariant-loop-approval
invariant-loop-approval l = record {
  can_next : (goal.iterator-loop-approval).can_next l.approval-iterator;
  is_finite : (goal.iterator-loop-approval).is_finite l.approval-iterator;
  rest : some (matches l.pattern) l.self.approvals ≡ some (matches l.pattern) l.approval-iterator;
}
