use Rattle.std.proofs.Common.{rules}
use Rattle.review_ops.proofs.word.is_voter.Goals as goal

pub returns-then-contains : goal.returns-then-contains
returns-then-contains c = search rules
