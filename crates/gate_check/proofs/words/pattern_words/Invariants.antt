use Rattle.std.proofs.Common.{◌≡◌, map, take, string_bytes}
use Rattle.gate_check.specs.Asking.{label_words}
use Rattle.gate_check.proofs.words.pattern_words.Given as goal

-- the words so far
abbrev pub invariant-loop-label : goal.invariant-loop-label
invariant-loop-label l = map string_bytes l.labels.items ≡ map label_words (take l.label-index l.label-items)
