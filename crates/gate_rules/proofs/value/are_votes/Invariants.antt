use Rattle.std.proofs.Common.{◌≡◌, map, drop}
use Rattle.serde_json.specs.View.{view}
use Rattle.gate_rules.specs.Reading.{each, is_vote}
use Rattle.gate_rules.proofs.value.are_votes.Given as goal

-- it is left to test the rest
abbrev pub invariant-loop-value : goal.invariant-loop-value
invariant-loop-value l = each is_vote (map view l.values) ≡ each is_vote (map view (drop l.value-index l.values))
