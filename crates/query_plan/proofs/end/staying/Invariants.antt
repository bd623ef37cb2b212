use Rattle.std.proofs.Common.{◌≡◌, take}
use Rattle.std.specs.Prelude.{filter}
use Rattle.query_plan.specs.Ending.{stays}
use Rattle.query_plan.proofs.end.staying.Given as goal

-- those so far that wait on
abbrev pub invariant-loop-change : goal.invariant-loop-change
invariant-loop-change l = l.staying.items ≡ filter (stays l.named l.listed) (take l.change-index l.waiting)
