use Rattle.std.proofs.Common.{map, sym, ap}
use Rattle.std.specs.Map.Iter.{deref_pair}
use Rattle.chunk_list.proofs.Walks.{IsPartlyCopied-more, IsPartlyCopied-start, after_first}
use Rattle.chunk_list.proofs.join_list.JoinListJoin.copy.Goals as goal

pub loop-key-init : goal.loop-key-init
loop-key-init g c = rw c.new-made.ensures
    (IsPartlyCopied-start g.met.K.Keep.ordered g.V.Join.joined _ _ (sym c.into_iter-key-iterator.ensures.into_iter_gives.1))

pub loop-key-preserved : goal.loop-key-preserved
loop-key-preserved g c =
    let step = rw (c.in_ok-copy.ensures, c.in_ok-copy-2.ensures) at c.in_ok-join_at.ensures.ok in
    IsPartlyCopied-more g.V.Join.joined _ _ _ _ (g.K.Keep.shape c.in-Some.key.now, g.V.Join.shape c.in-Some.value.now) _
    (ap (map (λ pair. (g.K.Keep.shape pair.0, g.V.Join.shape pair.1))) (after_first deref_pair _ _ _ _ c.in-Some.is c.next.ensures.steps)) c.loop-key.invariant step
