use Rattle.lattice_core.proofs.Pairs.{entries-map_of}
use Rattle.std.proofs.Common.{sym}
use Rattle.lattice_core.proofs.join_map.JoinMap.iter.Goals as goal

pub returns-clause-entries : goal.returns-clause-entries
returns-clause-entries g c = rw (c.iter.ensures.rest, ← c.self.view_is) (sym (entries-map_of g.met.K.Keep.ordered g.K.Keep.shape g.V.Join.shape g.met.K.Keep.compares c.self.inside.entries.entries c.iter.ensures.ordered))
