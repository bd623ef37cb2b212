-- A part that was joined in full is the join, and one that wasn't reached is the old one.
use Rattle.lattice_core.proofs.Exits.{OnErr-always}
use Rattle.lattice_core.specs.Join.{Covers-left, IsBetween-low, IsBetween-high, pairs_between}
use Rattle.lattice_core.proofs.both.BothJoin.join.Goals as goal

pub returns-in_err-join-clause-err : goal.returns-in_err-join-clause-err
returns-in_err-join-clause-err g c =
    OnErr-always c.from_residual.result (pairs_between c.in_err-join.ensures.err (IsBetween-low g.met.B.Join.laws _ _ (Covers-left g.met.B.Join.laws _ _)))

pub returns-in_err-join-2-clause-err : goal.returns-in_err-join-2-clause-err
returns-in_err-join-2-clause-err g c =
    OnErr-always c.from_residual-in_err-join-2.result
    (pairs_between (rw c.in_ok-join.ensures.ok (IsBetween-high g.met.A.Join.laws _ _ (Covers-left g.met.A.Join.laws _ _))) c.in_err-join-2.ensures.err)
