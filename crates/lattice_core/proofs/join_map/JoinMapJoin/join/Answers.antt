use Rattle.std.proofs.Common.{map, ap}
use Rattle.std.proofs.lemmas.Map.Iter.{rest_more}
use Rattle.lattice_core.specs.JoinMap.{map_of}
use Rattle.lattice_core.proofs.Exits.{OnErr-always}
use Rattle.lattice_core.proofs.Pairs.{entries-map_of}
use Rattle.lattice_core.proofs.Walks.{IsPartlyJoined-start, IsPartlyJoined-more, IsPartlyJoined-refused}
use Rattle.lattice_core.proofs.join_map.JoinMapJoin.join.Goals as goal

pub loop-key-init : goal.loop-key-init
loop-key-init g c =
    let gives = c.into_iter-key-iterator.ensures.into_iter_gives in
    IsPartlyJoined-start g.met.K.Keep.ordered g.met.V.Join.laws
    (map_of g.K.Keep.order g.K.Keep.shape g.V.Join.shape c.args.self.now)
    (map_of g.K.Keep.order g.K.Keep.shape g.V.Join.shape c.args.other) _
    (rw (gives.0, ← c.other.view_is) (entries-map_of g.met.K.Keep.ordered g.K.Keep.shape g.V.Join.shape g.met.K.Keep.compares c.other.inside.entries.entries gives.5))

pub loop-key-preserved : goal.loop-key-preserved
loop-key-preserved g c =
    IsPartlyJoined-more g.met.K.Keep.ordered g.met.V.Join.laws _ _ _ _ _
    (g.K.Keep.shape c.in-Some.key, g.V.Join.shape c.in-Some.value) _
    (ap (map (λ pair. (g.K.Keep.shape pair.0, g.V.Join.shape pair.1))) (rest_more (λ pair. pair) _ _ _ _ c.in-Some.is c.next.ensures.steps))
    c.loop-key.invariant c.in_ok-join_at.ensures.ok

pub returns-in_err-join_at-clause-err : goal.returns-in_err-join_at-clause-err
returns-in_err-join_at-clause-err g c =
    OnErr-always c.from_residual.result
    (IsPartlyJoined-refused g.met.K.Keep.ordered g.met.V.Join.laws _ _ _ _ _ (g.K.Keep.shape c.in-Some.key, g.V.Join.shape c.in-Some.value) _
    (ap (map (λ pair. (g.K.Keep.shape pair.0, g.V.Join.shape pair.1))) (rest_more (λ pair. pair) _ _ _ _ c.in-Some.is c.next.ensures.steps))
    c.loop-key.invariant c.in_err-join_at.ensures.err)
