use Rattle.walk_core.specs.Walks.{IsEdge, IsOfKind}
use Rattle.walk_core.specs.RankLaws.{ends_stand_before, together_stand_together, one_rank_order}
use Rattle.walk_core.proofs.laws.rank_order_is_one.Goals as goal

pub returns-clause-ends : goal.returns-clause-ends
returns-clause-ends g c =
    λ cmp order ends kind closed nodes are. ends_stand_before order (IsEdge ends) (IsOfKind kind) nodes are closed

pub returns-clause-together : goal.returns-clause-together
returns-clause-together g c =
    λ cmp order ends kind nodes are. together_stand_together order (IsEdge ends) (IsOfKind kind) nodes are

pub returns-clause-once : goal.returns-clause-once
returns-clause-once g c = λ cmp order ends kind a b p q. one_rank_order order (IsEdge ends) (IsOfKind kind) a b p q
