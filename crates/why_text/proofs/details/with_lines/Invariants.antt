use Rattle.std.proofs.Common.{◌≡◌, flat_map, string_bytes, take}
use Rattle.why_text.specs.Why.{with_line}
use Rattle.why_text.proofs.details.with_lines.Given as goal

abbrev pub invariant-loop-other : goal.invariant-loop-other
invariant-loop-other l = string_bytes l.text ≡ flat_map with_line (take l.other-index l.others)
