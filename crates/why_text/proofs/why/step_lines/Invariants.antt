use Rattle.std.proofs.Common.{◌≡◌, flat_map, string_bytes, take}
use Rattle.why_text.specs.Why.{step_line}
use Rattle.why_text.proofs.why.step_lines.Given as goal

abbrev pub invariant-loop-step : goal.invariant-loop-step
invariant-loop-step l = string_bytes l.text ≡ flat_map step_line (take l.step-index l.steps)
