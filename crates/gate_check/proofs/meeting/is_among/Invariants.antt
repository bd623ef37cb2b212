use Rattle.std.proofs.Common.{◌≡◌, map, drop, string_bytes}
use Rattle.std.specs.Str.{bytes_eq}
use Rattle.gate_rules.specs.Own.{some}
use Rattle.gate_check.proofs.meeting.is_among.Given as goal

-- it is left to test the rest
abbrev pub invariant-loop-text : goal.invariant-loop-text
invariant-loop-text l = some (bytes_eq l.status) (map string_bytes l.texts)
    ≡ some (bytes_eq l.status) (map string_bytes (drop l.text-index l.texts))
