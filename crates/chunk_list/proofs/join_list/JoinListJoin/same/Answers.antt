-- Two states that cover each other are one.
use Rattle.lattice_core.specs.Join.{Covers-antisymm, Covers-both_ways}
use Rattle.lattice_core.specs.JoinMap.{maps_join}
use Rattle.chunk_list.proofs.join_list.JoinListJoin.same.Goals as goal

pub returns-then-covers : goal.returns-then-covers
returns-then-covers g c =
    let laws = maps_join g.met.K.Keep.ordered g.met.V.Join.laws in (
      λ back. Covers-antisymm laws _ _ (c.covers.ensures.0 c.if-covers.true) (c.covers-then-covers.ensures.0 back),
      λ same. c.covers-then-covers.ensures.1 (Covers-both_ways laws _ _ same).1,
    )

pub returns-else-covers : goal.returns-else-covers
returns-else-covers g c =
    (λ covers. cc, λ same. c.covers.ensures.1 (Covers-both_ways (maps_join g.met.K.Keep.ordered g.met.V.Join.laws) _ _ same).0)
