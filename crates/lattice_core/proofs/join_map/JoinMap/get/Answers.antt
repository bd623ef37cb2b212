use Rattle.std.proofs.Common.{sym}
use Rattle.lattice_core.proofs.Pairs.{get-map_of}
use Rattle.lattice_core.proofs.join_map.JoinMap.get.Goals as goal

pub returns : goal.returns
returns g c = rw (c.get.ensures.value, ← c.self.view_is) (sym (get-map_of g.met.K.Keep.ordered g.K.Keep.shape g.V.Join.shape g.met.K.Keep.compares c.args.key.now c.self.inside.entries.entries))
