use Rattle.why_text.proofs.Broken.{broken_wanted}
use Rattle.why_text.proofs.laws.broken_conditions_are_wanted.Goals as goal

pub returns : goal.returns
returns c = broken_wanted
