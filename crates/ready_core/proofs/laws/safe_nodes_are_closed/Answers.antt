use Rattle.std.proofs.Common.{◌≡◌, ◌⊎◌, Bool, true, false, refl, inl, inr}
use Rattle.std.proofs.lemmas.Bool.{false≢true}
use Rattle.walk_core.specs.Walks.{IsEdge, IsOfKind}
use Rattle.ready_core.specs.Closed.{IsClosed-AreSafe, IsInClosedSet-AreSafe}
use Rattle.ready_core.proofs.laws.safe_nodes_are_closed.Goals as goal

either : (b : Bool) → (b ≡ true) ⊎ ¬ (b ≡ true)
either true = inl refl
either false = inr false≢true

pub returns-clause-closed : goal.returns-clause-closed
returns-clause-closed g c = λ ends eligible nodes set held are. IsClosed-AreSafe {E = IsEdge ends}
    {IsEligible = IsOfKind eligible} held (λ x there. either (eligible x)) are

pub returns-clause-union : goal.returns-clause-union
returns-clause-union g c = λ ends eligible nodes set held are x there. IsInClosedSet-AreSafe {E = IsEdge ends}
    {IsEligible = IsOfKind eligible} held (λ x there. either (eligible x)) are x there
