use Rattle.walk_core.specs.Walks.{IsEdge, IsOfKind, IsDistance-next, IsDistance-edge}
use Rattle.walk_core.proofs.laws.distances_go_down.Goals as goal

pub returns-clause-next : goal.returns-clause-next
returns-clause-next g c = λ ends kind n x far. IsDistance-next {E = IsEdge ends} {P = IsOfKind kind} n x far

pub returns-clause-no_nearer : goal.returns-clause-no_nearer
returns-clause-no_nearer g c =
    λ ends kind n m x y edge far near. IsDistance-edge {E = IsEdge ends} {P = IsOfKind kind} n m x y edge far near
