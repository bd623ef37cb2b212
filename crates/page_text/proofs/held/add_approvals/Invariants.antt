use Rattle.std.proofs.Common.{◌≡◌, ◌++◌, ◌+◌, ◌-◌}
use Rattle.page_text.specs.Metrics.{held_from}
use Rattle.page_text.proofs.held.add_approvals.Given as goal

-- the approvals so far, and those that are left
abbrev pub invariant-loop-place : goal.invariant-loop-place
invariant-loop-place l =
    l.all.items ++ held_from l.side (l.place + 1) (l.count - l.place)
    ≡ l.initial.all.items ++ held_from l.side 1 l.count
