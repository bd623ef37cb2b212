use Rattle.replica_core.proofs.Effects.{state_after}
use Rattle.replica_core.proofs.replica.Replica.take.Goals as goal

pub invariant_of-self : goal.invariant_of-self
invariant_of-self g c = record {
  joined = state_after c.arrive.result c.self.inside.arrivals.items c.arrive.new.arrivals.items c.self.inside.state c.arrive.new.follower c.args.op
      c.self.invariant.joined c.arrive.ensures.ok c.arrive.ensures.err;
  is_kept = c.arrive.ensures.kept;
}
