use Rattle.std.proofs.Common.{◌≡◌, ◌++◌, flat_map, take, string_bytes}
use Rattle.gate_check.specs.Checked.{as_warning}
use Rattle.gate_check.proofs.checking.add_warnings.Given as goal

-- the lines so far
abbrev pub invariant-loop-finding : goal.invariant-loop-finding
invariant-loop-finding l =
    string_bytes l.text ≡ string_bytes l.fn.text ++ flat_map as_warning (take l.finding-index l.found)
