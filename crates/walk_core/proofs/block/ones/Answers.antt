use Rattle.std.proofs.Common.{sym, ap, ◌∙◌}
use Rattle.std.specs.Prelude.{count_ones}
use Rattle.std.specs.Int.Count.{ones-ones}
use Rattle.walk_core.proofs.block.ones.Goals as goal

pub returns-in-18446744073709551615-clause-value : goal.returns-in-18446744073709551615-clause-value
returns-in-18446744073709551615-clause-value c = sym (ap count_ones c.in-18446744073709551615.is ∙ ones-ones 64)
