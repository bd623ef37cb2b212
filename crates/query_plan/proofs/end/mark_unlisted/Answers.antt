use Rattle.std.proofs.Common.{arith}
use Rattle.std.proofs.lemmas.Grind.{common_steps}
use Rattle.std.proofs.lemmas.List.Folds.{list_any-append}
use Rattle.query_plan.proofs.end.mark_unlisted.Goals as goal

pub loop-change-preserved : goal.loop-change-preserved
loop-change-preserved c = λ q. grind (arith, common_steps, list_any-append, c.loop-change.invariant q)
