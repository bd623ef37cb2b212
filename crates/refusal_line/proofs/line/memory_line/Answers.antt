use Rattle.std.proofs.Common.{refl}
use Rattle.std.specs.Fmt.{digits}
use Rattle.refusal_line.proofs.line.memory_line.Goals as goal

pub returns : goal.returns
unfolding digits
returns c = refl
