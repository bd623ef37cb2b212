use Rattle.lattice_core.specs.JoinMap.{get-map_joined}
use Rattle.lattice_core.proofs.laws.maps_join_key_by_key.Goals as goal

pub returns : goal.returns
returns g c = λ m n key. get-map_joined g.met.K.Keep.ordered g.V.Join.joined m n key
