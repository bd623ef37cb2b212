use Rattle.std.proofs.Common.{◌≡◌, drop}
use Rattle.gate_rules.specs.Own.{some}
use Rattle.std.specs.Ordering.{int_eq}
use Rattle.gate_rules.proofs.own.has_value.Given as goal

-- it is left to test the rest
abbrev pub invariant-loop-value : goal.invariant-loop-value
invariant-loop-value l = some (λ value. int_eq value l.approval.value) l.values
    ≡ some (λ value. int_eq value l.approval.value) (drop l.value-index l.values)
