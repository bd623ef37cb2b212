use Rattle.std.proofs.Common.{◌≡◌, ◌++◌, flat_map, map, take}
use Rattle.std.specs.Prelude.{string_bytes}
use Rattle.gate_check.specs.Warnings.{status_warning}
use Rattle.gate_check.proofs.finding.add_status_names.Given as goal

-- those so far
abbrev pub invariant-loop-name : goal.invariant-loop-name
invariant-loop-name l =
    l.found.items ≡ l.fn.found.items ++ flat_map (status_warning l.place) (map string_bytes (take l.name-index l.names))
