use Rattle.std.proofs.Common.{◌≡◌, map}
use Rattle.std.specs.Ordering.{nat_cmp}
use Rattle.std.proofs.lemmas.Result.{IfOk-weaker}
use Rattle.walk_core.specs.Digraphs.{HasEdge, IsMarked}
use Rattle.walk_core.specs.Ranks.{IsInRankOrder}
use Rattle.walk_core.proofs.Ordered.{in_rank_order}
use Rattle.walk_core.proofs.digraph.Digraph.in_rank_order.Goals as goal

pub returns : goal.returns
returns g c =
    IfOk-weaker c.nodes_of.result (λ nodes. nodes.items ≡ map (λ rank. rank.node) c.as_slice.result.now)
    (λ nodes. IsInRankOrder nat_cmp (HasEdge c.args.self.now) (IsMarked c.args.kept.now) nodes.items)
    (λ nodes are. in_rank_order nat_cmp (HasEdge c.args.self.now) (IsMarked c.args.kept.now) c.in_ok-ranks.ranks.items nodes.items c.in_ok-ranks.ensures (rw c.as_slice.ensures.value at are)) c.nodes_of.ensures
