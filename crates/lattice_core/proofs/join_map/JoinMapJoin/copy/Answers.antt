use Rattle.std.proofs.Common.{map, sym, ap}
use Rattle.std.specs.Map.Iter.{deref_pair}
use Rattle.std.proofs.lemmas.Map.Iter.{rest_more}
use Rattle.lattice_core.proofs.Walks.{IsPartlyCopied-more, IsPartlyCopied-start}
use Rattle.lattice_core.proofs.join_map.JoinMapJoin.copy.Goals as goal

pub loop-key-init : goal.loop-key-init
loop-key-init g c = rw c.new-made.ensures
    (IsPartlyCopied-start g.met.K.Keep.ordered _ _ (sym c.into_iter-key-iterator.ensures.into_iter_gives.1))

pub loop-key-preserved : goal.loop-key-preserved
loop-key-preserved g c =
    let step = rw (c.in_ok-copy.ensures, c.in_ok-copy-2.ensures) at c.in_ok-put.ensures.ok in
    IsPartlyCopied-more _ _ _ _ (g.K.Keep.shape c.in-Some.key.now, g.V.Join.shape c.in-Some.value.now) _
    (ap (map (λ pair. (g.K.Keep.shape pair.0, g.V.Join.shape pair.1))) (rest_more deref_pair _ _ _ _ c.in-Some.is c.next.ensures.steps)) c.loop-key.invariant step
