use Rattle.std.proofs.Common.{◌≡◌, map, take}
use Rattle.serde_json.specs.View.{view}
use Rattle.gate_rules.specs.Reading.{patterns_of}
use Rattle.gate_rules.proofs.build.patterns_of.Given as goal

-- the patterns so far
abbrev pub invariant-loop-value : goal.invariant-loop-value
invariant-loop-value l = l.patterns.items ≡ patterns_of (map view (take l.value-index l.values))
