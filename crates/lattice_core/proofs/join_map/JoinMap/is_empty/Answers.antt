use Rattle.lattice_core.proofs.Pairs.{empty-map_of}
use Rattle.lattice_core.proofs.join_map.JoinMap.is_empty.Goals as goal

pub returns : goal.returns
returns g c =
    let none = empty-map_of g.met.K.Keep.ordered g.K.Keep.shape g.V.Join.shape g.met.K.Keep.compares c.self.inside.entries.entries in
    rw (← c.self.view_is) (λ t. none.0 (c.is_empty.ensures.0 t), λ e. c.is_empty.ensures.1 (none.1 e))
