use Rattle.std.proofs.Common.{◌≡◌, ◌+◌, drop}
use Rattle.gate_rules.specs.Place.{blanks}
use Rattle.gate_rules.proofs.place.blanks.Given as goal

-- the bytes so far are blanks
abbrev pub invariant-loop-offset : goal.invariant-loop-offset
invariant-loop-offset l = blanks l.text ≡ l.offset + blanks (drop l.offset l.text)
