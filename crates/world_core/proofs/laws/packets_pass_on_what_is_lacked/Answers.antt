use Rattle.world_core.proofs.Passed.{passed_on}
use Rattle.world_core.proofs.laws.packets_pass_on_what_is_lacked.Goals as goal

pub returns : goal.returns
returns g c = λ sites sender receiver number count new front moment before sent comes delivered last to from.
    passed_on _ sites sender receiver number count new front moment before sent comes delivered last to from
