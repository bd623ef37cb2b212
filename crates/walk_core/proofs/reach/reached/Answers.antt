use Rattle.std.proofs.lemmas.Result.{IfOk-weaker}
use Rattle.walk_core.specs.Reach.{AreLeading, AreReached}
use Rattle.walk_core.proofs.Reaching.{AreReached-turned}
use Rattle.walk_core.proofs.reach.reached.Goals as goal

pub returns : goal.returns
returns g c =
    IfOk-weaker c.leading.result (λ flags. AreLeading c.in_ok-turned.turned c.args.marked.now flags.items)
    (λ flags. AreReached c.args.graph.now c.args.marked.now flags.items)
    (λ flags are. AreReached-turned c.args.graph.now c.in_ok-turned.turned c.args.marked.now flags.items c.in_ok-turned.ensures are)
    c.leading.ensures
