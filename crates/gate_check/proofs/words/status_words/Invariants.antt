use Rattle.std.proofs.Common.{◌≡◌, map, take, string_bytes}
use Rattle.json.specs.Print.{quoted}
use Rattle.gate_check.proofs.words.status_words.Given as goal

-- the words so far
abbrev pub invariant-loop-text : goal.invariant-loop-text
invariant-loop-text l = map string_bytes l.quoted.items ≡ map quoted (map string_bytes (take l.text-index l.texts))
