use Rattle.sealed_ends.proofs.Writing.{none_taken}
use Rattle.sealed_ends.proofs.drain.SealedDrain.new.Goals as goal

pub returns-clause-taken : goal.returns-clause-taken
returns-clause-taken g c = none_taken c.args.seal c.count-first.result c.count-first.ensures c.new.result.items c.new.ensures.items (g.D.Drain.taken c.args.drain)
