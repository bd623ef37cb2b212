use Rattle.ready_core.proofs.Unique.{one_verdicts}
use Rattle.ready_core.proofs.laws.verdicts_are_unique.Goals as goal

pub returns : goal.returns
returns c = λ gate state a b are also. one_verdicts gate state a b are also
