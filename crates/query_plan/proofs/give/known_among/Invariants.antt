use Rattle.std.proofs.Common.{◌≡◌, take}
use Rattle.std.specs.Prelude.{filter}
use Rattle.query_plan.specs.Plan.{is_known_by}
use Rattle.query_plan.proofs.give.known_among.Given as goal

-- those so far that are known
abbrev pub invariant-loop-change : goal.invariant-loop-change
invariant-loop-change l =
    l.known.items ≡ filter (is_known_by l.marks) (take l.change-index l.changes)
