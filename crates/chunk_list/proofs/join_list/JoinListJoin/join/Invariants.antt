use Rattle.std.proofs.Common.{map}
use Rattle.lattice_core.specs.JoinMap.{map_of, map_joined}
use Rattle.chunk_list.proofs.Walks.{IsPartlyJoined}
use Rattle.chunk_list.proofs.join_list.JoinListJoin.join.Given as goal

abbrev pub invariant-loop-key : goal.invariant-loop-key
invariant-loop-key g l = IsPartlyJoined g.V.Join.joined
    (map_of g.K.Keep.order g.K.Keep.shape g.V.Join.shape l.fn.self)
    (map_joined g.V.Join.joined (map_of g.K.Keep.order g.K.Keep.shape g.V.Join.shape l.fn.self) (map_of g.K.Keep.order g.K.Keep.shape g.V.Join.shape l.fn.other))
    (map_of g.K.Keep.order g.K.Keep.shape g.V.Join.shape l.self)
    (map (λ pair. (g.K.Keep.shape pair.0, g.V.Join.shape pair.1)) l.key-iterator)
