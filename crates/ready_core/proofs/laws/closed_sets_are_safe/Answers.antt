use Rattle.walk_core.specs.Walks.{IsEdge, IsOfKind}
use Rattle.ready_core.specs.Closed.{IsClosed-safe}
use Rattle.ready_core.proofs.laws.closed_sets_are_safe.Goals as goal

pub returns : goal.returns
returns g c =
    λ ends eligible x some n. IsClosed-safe {E = IsEdge ends} {IsEligible = IsOfKind eligible} some.closed n x some.has
