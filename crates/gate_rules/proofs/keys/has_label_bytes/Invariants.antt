use Rattle.std.proofs.Common.{◌≡◌, drop}
use Rattle.gate_rules.specs.Reading.{each}
use Rattle.review_ops.specs.Good.{is_label_byte}
use Rattle.gate_rules.proofs.keys.has_label_bytes.Given as goal

-- it is left to test the rest
abbrev pub invariant-loop-byte : goal.invariant-loop-byte
invariant-loop-byte l = each is_label_byte l.bytes ≡ each is_label_byte (drop l.byte-index l.bytes)
