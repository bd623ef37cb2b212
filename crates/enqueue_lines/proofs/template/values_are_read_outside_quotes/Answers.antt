use Rattle.enqueue_lines.proofs.Quotes.{values_bare}
use Rattle.enqueue_lines.proofs.template.values_are_read_outside_quotes.Goals as goal

pub returns : goal.returns
returns c = λ whole parts reads. values_bare whole parts reads
