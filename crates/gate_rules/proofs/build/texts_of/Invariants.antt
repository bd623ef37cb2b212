use Rattle.std.proofs.Common.{◌≡◌, map, take, string_bytes}
use Rattle.serde_json.specs.View.{view}
use Rattle.gate_rules.specs.Reading.{texts_of}
use Rattle.gate_rules.proofs.build.texts_of.Given as goal

-- the texts so far
abbrev pub invariant-loop-value : goal.invariant-loop-value
invariant-loop-value l = map string_bytes l.texts.items ≡ texts_of (map view (take l.value-index l.values))
