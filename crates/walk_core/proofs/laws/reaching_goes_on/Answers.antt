use Rattle.walk_core.specs.Walks.{IsEdge, Reaches-trans, IsOnCycle-both}
use Rattle.walk_core.proofs.laws.reaching_goes_on.Goals as goal

pub returns-clause-further : goal.returns-clause-further
returns-clause-further g c = λ ends x y z p q. Reaches-trans (IsEdge ends) x y z p q

pub returns-clause-cycle : goal.returns-clause-cycle
returns-clause-cycle g c = λ ends x y p q. IsOnCycle-both (IsEdge ends) x y p q
