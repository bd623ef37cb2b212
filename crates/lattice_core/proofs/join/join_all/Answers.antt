-- A list's join is the least state that covers all of them.
use Rattle.std.proofs.Common.{arith}
use Rattle.std.proofs.lemmas.Grind.{common_steps}
use Rattle.lattice_core.specs.Join.{reduce-IsLeastCover}
use Rattle.lattice_core.proofs.join.join_all.Goals as goal

pub returns-clause-least : goal.returns-clause-least
returns-clause-least g c = reduce-IsLeastCover g.met.J.Join.laws _ _ (grind (arith, common_steps))
