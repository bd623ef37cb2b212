use Rattle.std.proofs.Common.{sym, subst}
use Rattle.replica_core.specs.Front.{AreFromOneOn}
use Rattle.replica_core.specs.FrontLaws.{AreReached-empty}
use Rattle.replica_core.proofs.front.Front.new.Goals as goal

pub invariant_of-result : goal.invariant_of-result
invariant_of-result g c = subst AreFromOneOn (sym c.new.ensures) AreReached-empty
