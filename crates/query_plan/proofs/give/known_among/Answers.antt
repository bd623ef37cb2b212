use Rattle.std.proofs.Common.{rules}
use Rattle.query_plan.specs.Plan.{is_known_by}
use Rattle.query_plan.proofs.Filtering.{one_fails, one_passes}
use Rattle.query_plan.proofs.give.known_among.Goals as goal
use Rattle.query_plan.proofs.give.known_among.Goals.{then-is_known+in_ok-push, else-is_known}

pub loop-change-preserved : goal.loop-change-preserved
loop-change-preserved c = elim c.if-is_known.branch [
  | then-is_known+in_ok-push w ↦
      one_passes (is_known_by c.args.marks.now) c.args.changes.now c.loop-change.known.items c.if-is_known.known.items
      c.loop-change.change-index c.loop-change-test.true c.loop-change.invariant (search rules) (search rules)
  | else-is_known w ↦
      one_fails (is_known_by c.args.marks.now) c.args.changes.now c.if-is_known.known.items
      c.loop-change.change-index c.loop-change-test.true (search rules) (search rules)
]
