use Rattle.lattice_core.specs.Keep.{pairs_exact}
use Rattle.lattice_core.specs.Greatest.{joined_all-IsGreatest}
use Rattle.lattice_core.proofs.laws.registers_join_to_the_greatest.Goals as goal

pub returns : goal.returns
returns g c = λ first rest. joined_all-IsGreatest (pairs_exact g.met.K.Keep.ordered g.met.V.Keep.ordered) first rest
