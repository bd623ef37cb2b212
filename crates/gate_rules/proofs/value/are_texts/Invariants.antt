use Rattle.std.proofs.Common.{◌≡◌, map, drop}
use Rattle.serde_json.specs.View.{view}
use Rattle.gate_rules.specs.Reading.{each, is_text}
use Rattle.gate_rules.proofs.value.are_texts.Given as goal

-- it is left to test the rest
abbrev pub invariant-loop-value : goal.invariant-loop-value
invariant-loop-value l = each is_text (map view l.values) ≡ each is_text (map view (drop l.value-index l.values))
