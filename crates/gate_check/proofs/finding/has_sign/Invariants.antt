use Rattle.std.proofs.Common.{◌≡◌, drop}
use Rattle.gate_rules.specs.Own.{some}
use Rattle.gate_check.specs.Warnings.{is_sign}
use Rattle.gate_check.proofs.finding.has_sign.Given as goal

-- it is left to test the rest
abbrev pub invariant-loop-byte : goal.invariant-loop-byte
invariant-loop-byte l = some is_sign l.username ≡ some is_sign (drop l.byte-index l.username)
