use Rattle.std.proofs.Common.{flat_map, take}
use Rattle.json_line.specs.Tokens.{AddsTokens}
use Rattle.gate_check.specs.Checked.{warning_tokens}
use Rattle.gate_check.proofs.object.add_all.Given as goal

-- those so far are added
abbrev pub invariant-loop-finding : goal.invariant-loop-finding
invariant-loop-finding l = AddsTokens l.initial.out l.out (flat_map warning_tokens (take l.finding-index l.found))
