use Rattle.std.proofs.Common.{◌≡◌, ℕ, if◌then◌else◌}
use Rattle.std.specs.List.{list_any}
use Rattle.std.specs.Ordering.{nat_cmp}
use Rattle.std.specs.BTreeMap.{is_at}
use Rattle.std.specs.BTreeSet.{contains}
use Rattle.query_plan.specs.Marks.{as_listed}
use Rattle.query_plan.specs.Plan.{marks_at}
use Rattle.query_plan.proofs.end.mark_listed.Given as goal

-- once those that are left are marked, all are
abbrev pub invariant-loop-change : goal.invariant-loop-change
invariant-loop-change l = (q : ℕ)
    → (if list_any (is_at (nat_cmp q)) l.change-iterator then as_listed l.is_all (marks_at l.marks q) else marks_at l.marks q)
    ≡ (if contains nat_cmp l.listed q then as_listed l.is_all (marks_at l.initial.marks q) else marks_at l.initial.marks q)
