use Rattle.std.proofs.Common.{◌≡◌, map, take, string_bytes}
use Rattle.std.specs.Fmt.{signed_decimal}
use Rattle.gate_check.proofs.words.label_words.Given as goal

-- the words so far
abbrev pub invariant-loop-value : goal.invariant-loop-value
invariant-loop-value l = map string_bytes l.values.items ≡ map signed_decimal (take l.value-index l.value-items)
