use Rattle.std.proofs.Common.{◌≡◌, ◌++◌, flat_map, string_bytes}
use Rattle.change_core.specs.Votes.{approvals_of}
use Rattle.why_text.specs.Why.{approval_line}
use Rattle.why_text.proofs.details.add_approvals.Given as goal

-- what is written, with the lines that are left, is the whole
abbrev pub invariant-loop-approval : goal.invariant-loop-approval
invariant-loop-approval l = record {
  can_next : (goal.iterator-loop-approval).can_next l.approval-iterator;
  is_finite : (goal.iterator-loop-approval).is_finite l.approval-iterator;
  lines : string_bytes l.text ++ flat_map approval_line l.approval-iterator
      ≡ string_bytes l.initial.text ++ flat_map approval_line (approvals_of l.change l.set);
}
