use Rattle.std.proofs.Common.{◌≡◌, drop}
use Rattle.std.specs.Prelude.{nat_eq}
use Rattle.gate_rules.specs.Own.{some}
use Rattle.gate_check.proofs.finding.has_byte.Given as goal

-- it is left to test the rest
abbrev pub invariant-loop-other : goal.invariant-loop-other
invariant-loop-other l = some (nat_eq l.byte) l.bytes ≡ some (nat_eq l.byte) (drop l.other-index l.bytes)
