use Rattle.std.proofs.Common.{map}
use Rattle.lattice_core.specs.JoinMap.{map_of}
use Rattle.lattice_core.proofs.Walks.{IsPartlyCopied}
use Rattle.lattice_core.proofs.join_map.JoinMapJoin.copy.Given as goal

abbrev pub invariant-loop-key : goal.invariant-loop-key
invariant-loop-key g l = IsPartlyCopied (map_of g.K.Keep.order g.K.Keep.shape g.V.Join.shape l.self)
    (map_of g.K.Keep.order g.K.Keep.shape g.V.Join.shape l.made)
    (map (λ pair. (g.K.Keep.shape pair.0, g.V.Join.shape pair.1)) l.key-iterator)
