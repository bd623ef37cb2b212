use Rattle.walk_core.specs.RankLaws.{ends_stand_before, together_stand_together}
use Rattle.graph_core.specs.Dependencies.{IsDependency}
use Rattle.ready_core.specs.Refusals.{IsReady}
use Rattle.ready_core.proofs.Unique.{items_exactly}
use Rattle.ready_core.proofs.laws.ready_items_are_in_gate_order.Goals as goal

pub returns-clause-ends : goal.returns-clause-ends
returns-clause-ends c = λ gate state verdicts are. ends_stand_before items_exactly (IsDependency gate state)
    (IsReady gate state) verdicts.ready are.ready_in_order
    (λ item other ready edge. record { set = ready.set; closed = ready.closed; has = ready.closed.ends item other ready.has edge })

pub returns-clause-together : goal.returns-clause-together
returns-clause-together c = λ gate state verdicts are. together_stand_together items_exactly (IsDependency gate state)
    (IsReady gate state) verdicts.ready are.ready_in_order
