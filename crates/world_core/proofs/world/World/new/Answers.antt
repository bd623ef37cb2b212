use Rattle.world_core.proofs.Histories.{begins}
use Rattle.world_core.proofs.world.World.new.Goals as goal

pub invariant_of-result : goal.invariant_of-result
invariant_of-result g c = begins _ c.args.sites c.in_ok-machine.machine c.in_ok-machine.ensures
