use Rattle.std.proofs.Common.{◌≡◌}
use Rattle.serde_json.specs.View.{members_view}
use Rattle.gate_rules.specs.Walk.{first_fault}
use Rattle.gate_rules.proofs.walk.first_fault.Given as goal

-- the members so far have no fault
abbrev pub invariant-loop-key : goal.invariant-loop-key
invariant-loop-key g l = record {
  can_next : (goal.iterator-loop-key g).can_next l.key-iterator;
  is_finite : (goal.iterator-loop-key g).is_finite l.key-iterator;
  so_far : first_fault (g.J.Judge.judged l.fn.judge) (members_view l.fn.members.entries)
      ≡ first_fault (g.J.Judge.judged l.fn.judge) (members_view l.key-iterator);
}
