use Rattle.std.proofs.Common.{sym}
use Rattle.chunk_list.proofs.Walks.{IsCoveredWith-start}
use Rattle.chunk_list.proofs.join_list.JoinListJoin.covers.Goals as goal

pub loop-key-init : goal.loop-key-init
loop-key-init g c = (tt, tt, IsCoveredWith-start g.met.K.Keep.ordered g.V.Join.joined _ _ _ (sym c.into_iter-key-iterator.ensures.into_iter_gives.1))
