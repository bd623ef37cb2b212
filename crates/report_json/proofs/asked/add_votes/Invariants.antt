use Rattle.std.proofs.Common.{◌≡◌, ◌++◌, flat_map}
use Rattle.change_core.specs.Votes.{approvals_of}
use Rattle.report_json.specs.Why.{vote_tokens}
use Rattle.report_json.proofs.asked.add_votes.Given as goal

-- what is written, with the objects that are left, is the whole
abbrev pub invariant-loop-approval : goal.invariant-loop-approval
invariant-loop-approval l = record {
  can_next : (goal.iterator-loop-approval).can_next l.approval-iterator;
  is_finite : (goal.iterator-loop-approval).is_finite l.approval-iterator;
  before : l.out.before ≡ l.initial.out.before;
  tokens : l.out.tokens ++ flat_map vote_tokens l.approval-iterator
      ≡ l.initial.out.tokens ++ flat_map vote_tokens (approvals_of l.change l.set);
}
