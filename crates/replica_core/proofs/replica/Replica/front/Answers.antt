use Rattle.std.proofs.Common.{sym, subst}
use Rattle.replica_core.specs.Front.{IsFront}
use Rattle.replica_core.specs.Lines.{front_of}
use Rattle.replica_core.proofs.Absorbing.{if_ok}
use Rattle.replica_core.proofs.Reaching.{IsFront-lines}
use Rattle.replica_core.proofs.replica.Replica.front.Goals as goal

pub returns : goal.returns
returns g c =
    let journal = c.self.inside.arrivals.items in
    let lines = c.self.inside.lines in
    if_ok c.front_of.result (λ front is. subst (IsFront c.args.self.now) (sym is) (subst (λ j. IsFront j (front_of lines)) c.self.view_is (IsFront-lines journal lines c.self.invariant.is_kept.lines))) c.front_of.ensures
