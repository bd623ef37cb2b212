use Rattle.std.proofs.Common.{◌≡◌, take}
use Rattle.std.specs.Str.Parse.{AllDigits, digits_value}
use Rattle.snapshot_text.proofs.end_line.number.Given as goal

-- the bytes so far are digits that write the number
abbrev pub invariant-loop-digit : goal.invariant-loop-digit
invariant-loop-digit l =
    AllDigits 10 (take l.digit-index l.digits) × (digits_value 10 (take l.digit-index l.digits) ≡ l.number)
