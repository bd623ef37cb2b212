use Rattle.std.proofs.Common.{◌≡◌, map, drop}
use Rattle.serde_json.specs.View.{view}
use Rattle.gate_rules.specs.Walk.{first_in_list, object_fault, approval_fault}
use Rattle.gate_rules.proofs.walk.approvals_fault.Given as goal

-- the approvals so far have no fault
abbrev pub invariant-loop-value : goal.invariant-loop-value
invariant-loop-value l = first_in_list (object_fault approval_fault l.fn.key) (map view l.values)
    ≡ first_in_list (object_fault approval_fault l.fn.key) (map view (drop l.value-index l.values))
