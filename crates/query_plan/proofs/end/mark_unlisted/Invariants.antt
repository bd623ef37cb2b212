use Rattle.std.proofs.Common.{◌≡◌, ℕ, not, take, if◌then◌else◌}
use Rattle.std.specs.Prelude.{◌&&◌}
use Rattle.std.specs.Ordering.{nat_cmp}
use Rattle.std.specs.BTreeSet.{contains}
use Rattle.query_plan.specs.Marks.{as_unlisted}
use Rattle.query_plan.specs.Plan.{is_on_list, marks_at}
use Rattle.query_plan.proofs.end.mark_unlisted.Given as goal

-- those so far are marked
abbrev pub invariant-loop-change : goal.invariant-loop-change
invariant-loop-change l = (q : ℕ) → marks_at l.marks q
    ≡ (if is_on_list (take l.change-index l.named) q && not (contains nat_cmp l.listed q)
    then as_unlisted l.until (marks_at l.initial.marks q) else marks_at l.initial.marks q)
