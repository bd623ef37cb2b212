use Rattle.site_shared.specs.Publishes.{arrive}
use Rattle.site_shared.proofs.Watching.{keeps_up}
use Rattle.site_shared.proofs.watch.Watch.new.Goals as goal

pub invariant_of-result : goal.invariant_of-result
invariant_of-result c = keeps_up c.args.evaluator (arrive c.args.sight.seen.log) c.requires
