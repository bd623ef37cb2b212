use Rattle.std.proofs.Common.{◌≡◌, ◌++◌, flat_map, take}
use Rattle.gate_check.specs.Shown.{names_shown}
use Rattle.gate_check.specs.Warnings.{label_warning}
use Rattle.gate_check.proofs.finding.add_labels.Given as goal

-- those so far
abbrev pub invariant-loop-rule : goal.invariant-loop-rule
invariant-loop-rule l =
    l.found.items ≡ l.fn.found.items ++ flat_map (label_warning l.place (names_shown l.names)) (take l.rule-index l.labels)
