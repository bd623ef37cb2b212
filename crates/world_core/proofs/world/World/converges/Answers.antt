use Rattle.std.proofs.Common.{subst}
use Rattle.world_core.specs.Convergence.{HasConverged}
use Rattle.world_core.proofs.Histories.{has_converged}
use Rattle.world_core.proofs.world.World.converges.Goals as goal

pub returns : goal.returns
returns g c = subst (HasConverged _) c.self.view_is (has_converged _ c.self.inside.machine c.self.invariant)
