use Rattle.std.proofs.Common.{◌≡◌, take}
use Rattle.std.specs.Prelude.{filter}
use Rattle.query_plan.specs.Plan.{is_awake_by}
use Rattle.query_plan.proofs.give.awake_among.Given as goal

-- those so far that don't rest
abbrev pub invariant-loop-change : goal.invariant-loop-change
invariant-loop-change l =
    l.awake.items ≡ filter (is_awake_by l.now l.round l.marks) (take l.change-index l.changes)
