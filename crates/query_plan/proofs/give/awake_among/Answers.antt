use Rattle.std.proofs.Common.{rules}
use Rattle.query_plan.specs.Plan.{is_awake_by}
use Rattle.query_plan.proofs.Filtering.{one_fails, one_passes}
use Rattle.query_plan.proofs.give.awake_among.Goals as goal
use Rattle.query_plan.proofs.give.awake_among.Goals.{then-is_awake+in_ok-push, else-is_awake}

pub loop-change-preserved : goal.loop-change-preserved
loop-change-preserved c = elim c.if-is_awake.branch [
  | then-is_awake+in_ok-push w ↦
      one_passes (is_awake_by c.args.now c.args.round c.args.marks.now) c.args.changes.now c.loop-change.awake.items c.if-is_awake.awake.items
      c.loop-change.change-index c.loop-change-test.true c.loop-change.invariant (search rules) (search rules)
  | else-is_awake w ↦
      one_fails (is_awake_by c.args.now c.args.round c.args.marks.now) c.args.changes.now c.if-is_awake.awake.items
      c.loop-change.change-index c.loop-change-test.true (search rules) (search rules)
]
