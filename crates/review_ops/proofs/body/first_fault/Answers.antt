use Rattle.std.proofs.Common.{rules}
use Rattle.review_ops.proofs.body.first_fault.Goals as goal

pub returns-then-eq-clause-first : goal.returns-then-eq-clause-first
returns-then-eq-clause-first g c = search rules

pub returns-then-eq-2-clause-first : goal.returns-then-eq-2-clause-first
returns-then-eq-2-clause-first g c = search rules

pub returns-clause-none : goal.returns-clause-none
returns-clause-none g c = search rules
