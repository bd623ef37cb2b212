use Rattle.std.proofs.Common.{map, sym}
use Rattle.chunk_list.proofs.Keyed.{entries_sorted_are}
use Rattle.chunk_list.proofs.join_list.JoinList.iter.Goals as goal

pub returns-clause-entries : goal.returns-clause-entries
returns-clause-entries g c = rw (c.iter.ensures, ← c.self.view_is)
    (sym (entries_sorted_are g.met.K.Keep.ordered (map (λ pair. (g.K.Keep.shape pair.0, g.V.Join.shape pair.1)) c.self.inside.entries) c.self.invariant))
