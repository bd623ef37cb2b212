use Rattle.lattice_core.proofs.Pairs.{contains-map_of}
use Rattle.lattice_core.proofs.join_map.JoinMap.contains_key.Goals as goal

pub returns : goal.returns
returns g c = rw (c.contains_key.ensures, ← c.self.view_is) (contains-map_of g.met.K.Keep.ordered g.K.Keep.shape g.V.Join.shape g.met.K.Keep.compares c.args.key.now c.self.inside.entries.entries)
