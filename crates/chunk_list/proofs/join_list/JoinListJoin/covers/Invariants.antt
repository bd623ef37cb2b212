use Rattle.std.proofs.Common.{map}
use Rattle.lattice_core.specs.JoinMap.{map_of}
use Rattle.chunk_list.proofs.Walks.{IsCoveredWith}
use Rattle.chunk_list.proofs.join_list.JoinListJoin.covers.Given as goal

abbrev pub invariant-loop-key : goal.invariant-loop-key
invariant-loop-key g l =
    (goal.iterator-loop-key g).can_next l.key-iterator ×
    (goal.iterator-loop-key g).is_finite l.key-iterator ×
    IsCoveredWith g.V.Join.joined (map_of g.K.Keep.order g.K.Keep.shape g.V.Join.shape l.self)
    (map_of g.K.Keep.order g.K.Keep.shape g.V.Join.shape l.other)
    (map (λ pair. (g.K.Keep.shape pair.0, g.V.Join.shape pair.1)) l.key-iterator)
