use Rattle.std.proofs.Common.{map, ap}
use Rattle.lattice_core.specs.JoinMap.{map_of}
use Rattle.chunk_list.proofs.AtKey.{err_always}
use Rattle.chunk_list.proofs.Keyed.{entries_sorted_are}
use Rattle.chunk_list.proofs.Walks.{IsPartlyJoined-start, IsPartlyJoined-more, IsPartlyJoined-refused, after_first}
use Rattle.chunk_list.proofs.join_list.JoinListJoin.join.Goals as goal

pub loop-key-init : goal.loop-key-init
loop-key-init g c =
    let gives = c.into_iter-key-iterator.ensures.into_iter_gives in
    IsPartlyJoined-start g.met.K.Keep.ordered g.met.V.Join.laws
    (map_of g.K.Keep.order g.K.Keep.shape g.V.Join.shape c.args.self.now)
    (map_of g.K.Keep.order g.K.Keep.shape g.V.Join.shape c.args.other) _
    (rw (gives, ← c.other.view_is) (entries_sorted_are g.met.K.Keep.ordered (map (λ pair. (g.K.Keep.shape pair.0, g.V.Join.shape pair.1)) c.other.inside.entries) c.other.invariant))

pub loop-key-preserved : goal.loop-key-preserved
loop-key-preserved g c =
    IsPartlyJoined-more g.met.K.Keep.ordered g.met.V.Join.laws _ _ _ _ _
    (g.K.Keep.shape c.in-Some.key, g.V.Join.shape c.in-Some.value) _
    (ap (map (λ pair. (g.K.Keep.shape pair.0, g.V.Join.shape pair.1))) (after_first (λ pair. pair) _ _ _ _ c.in-Some.is c.next.ensures.steps))
    c.loop-key.invariant c.in_ok-join_at.ensures.ok

pub returns-in_err-join_at-clause-err : goal.returns-in_err-join_at-clause-err
returns-in_err-join_at-clause-err g c =
    err_always c.from_residual.result
    (IsPartlyJoined-refused g.met.K.Keep.ordered g.met.V.Join.laws _ _ _ _ _ (g.K.Keep.shape c.in-Some.key, g.V.Join.shape c.in-Some.value) _
    (ap (map (λ pair. (g.K.Keep.shape pair.0, g.V.Join.shape pair.1))) (after_first (λ pair. pair) _ _ _ _ c.in-Some.is c.next.ensures.steps))
    c.loop-key.invariant c.in_err-join_at.ensures.err)
