use Rattle.std.proofs.Common.{◌≡◌, map, take}
use Rattle.serde_json.specs.View.{view}
use Rattle.gate_rules.specs.Reading.{votes_of}
use Rattle.gate_rules.proofs.build.votes_of.Given as goal

-- the numbers so far
abbrev pub invariant-loop-value : goal.invariant-loop-value
invariant-loop-value l = l.votes.items ≡ votes_of (map view (take l.value-index l.values))
