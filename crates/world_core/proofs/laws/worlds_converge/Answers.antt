use Rattle.world_core.proofs.Coming.{converges}
use Rattle.world_core.proofs.laws.worlds_converge.Goals as goal

pub returns : goal.returns
returns g c = λ sites events answers world h. converges sites events answers world h
