use Rattle.std.proofs.Common.{rules}
use Rattle.change_core.proofs.votes.VotedSetsIterator.next.Goals as goal

pub returns-then-ne-clause-steps : goal.returns-then-ne-clause-steps
returns-then-ne-clause-steps g c = search rules
