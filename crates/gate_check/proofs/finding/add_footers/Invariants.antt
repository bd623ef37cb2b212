use Rattle.std.proofs.Common.{◌≡◌, ◌++◌, map, string_bytes}
use Rattle.gate_check.specs.Warnings.{footer_warning}
use Rattle.gate_check.proofs.finding.add_footers.Given as goal

-- those so far, and those that are left
abbrev pub invariant-loop-value : goal.invariant-loop-value
invariant-loop-value l =
    l.found.items ++ map footer_warning (map string_bytes l.value-iterator)
    ≡ l.fn.found.items ++ map footer_warning (map string_bytes l.values.keys)
