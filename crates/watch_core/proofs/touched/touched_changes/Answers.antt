use Rattle.std.proofs.Common.{arith}
use Rattle.std.proofs.lemmas.Grind.{common_steps}
use Rattle.watch_core.proofs.touched.touched_changes.Goals as goal

pub loop-op-preserved : goal.loop-op-preserved
loop-op-preserved c = λ number. grind (arith, common_steps, c.in-Some.ensures.steps, c.loop-op.invariant number)
