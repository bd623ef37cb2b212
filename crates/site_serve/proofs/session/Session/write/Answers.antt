use Rattle.std.proofs.Common.{false}
use Rattle.site_serve.proofs.Rights.{only_then}
use Rattle.site_serve.proofs.session.Session.write.Goals as goal

pub loop-preserved : goal.loop-preserved
loop-preserved g c =
    only_then (record c.args.self.now { takes_more = false }) c.loop.self c.write_next.new.self c.loop.invariant c.write_next.ensures.only
