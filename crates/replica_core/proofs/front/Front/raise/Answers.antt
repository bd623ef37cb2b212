use Rattle.replica_core.specs.FrontShown.{reaches_shown}
use Rattle.replica_core.proofs.Fronts.{AreReached-raise}
use Rattle.replica_core.proofs.front.Front.raise.Goals as goal

pub invariant_of-self : goal.invariant_of-self
invariant_of-self g c =
    AreReached-raise c.join_at.result (reaches_shown c.self.inside.rows)
    (reaches_shown c.join_at.new.self) c.args.row.site c.args.row.start c.args.seq
    c.if-seq-eq0.false c.join_at.ensures.ok (c.join_at.ensures.unchanged tt) c.self.invariant
