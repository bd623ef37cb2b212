use Rattle.std.proofs.Common.{◌≡◌, take}
use Rattle.gate_rules.proofs.gate.Pattern.copy.Given as goal

-- the labels so far
abbrev pub invariant-loop-label : goal.invariant-loop-label
invariant-loop-label l = l.labels.items ≡ take l.label-index l.label-items
