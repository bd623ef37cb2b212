use Rattle.std.proofs.Common.{Contains, subst, sym}
use Rattle.watch_core.proofs.seeds.graph_of.Goals as goal

pub returns-clause-holds : goal.returns-clause-holds
returns-clause-holds c = λ item is again. subst (λ l. Contains l item) (sym c.in_ok-graph.ensures.items)
    (c.in_ok-part.ensures.items item (c.in_ok-seeds.ensures.holds item is again))
