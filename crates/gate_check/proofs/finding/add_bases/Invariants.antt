use Rattle.std.proofs.Common.{◌≡◌, ◌++◌, drop}
use Rattle.gate_check.specs.Asking.{by_place}
use Rattle.gate_check.specs.Warnings.{base_warning}
use Rattle.gate_check.proofs.finding.add_bases.Given as goal

-- those so far, and those that are left
abbrev pub invariant-loop-place : goal.invariant-loop-place
invariant-loop-place l =
    l.found.items ++ by_place (base_warning l.gate) l.place (drop l.place l.unused)
    ≡ l.fn.found.items ++ by_place (base_warning l.gate) 0 l.unused
