use Rattle.std.proofs.Common.{sym}
use Rattle.lattice_core.proofs.Pairs.{len-map_of}
use Rattle.lattice_core.proofs.join_map.JoinMap.len.Goals as goal

pub returns : goal.returns
returns g c = rw (c.len.ensures.len, ← c.self.view_is) (sym (len-map_of g.met.K.Keep.ordered g.K.Keep.shape g.V.Join.shape g.met.K.Keep.compares c.self.inside.entries.entries c.len.ensures.ordered))
