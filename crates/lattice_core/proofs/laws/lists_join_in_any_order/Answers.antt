use Rattle.lattice_core.specs.Join.{joined_all-same_members}
use Rattle.lattice_core.proofs.laws.lists_join_in_any_order.Goals as goal

pub returns : goal.returns
returns g c = λ a b xs ys same. joined_all-same_members g.met.J.Join.laws a xs b ys same
