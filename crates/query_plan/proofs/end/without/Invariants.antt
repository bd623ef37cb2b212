use Rattle.std.proofs.Common.{◌≡◌, not, take}
use Rattle.std.specs.Prelude.{◌==◌, filter}
use Rattle.query_plan.proofs.end.without.Given as goal

-- those so far but the one
abbrev pub invariant-loop-change : goal.invariant-loop-change
invariant-loop-change l = l.staying.items ≡ filter (λ other. not (other == l.gone)) (take l.change-index l.waiting)
