use Rattle.std.proofs.Common.{◌≡◌, length}
use Rattle.change_core.specs.Votes.{approvals_among}
use Rattle.change_core.proofs.votes.ApprovalsIterator.next.Given as goal

abbrev pub invariant-loop-vote : goal.invariant-loop-vote
invariant-loop-vote g l = approvals_among l.self-inside.votes ≡ l.fn.self

abbrev pub decreases-loop-vote : goal.decreases-loop-vote
decreases-loop-vote g l = length l.self-inside.votes
