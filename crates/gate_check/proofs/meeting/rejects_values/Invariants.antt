use Rattle.std.proofs.Common.{◌≡◌, drop}
use Rattle.gate_rules.specs.Reading.{each}
use Rattle.gate_check.specs.Meeting.{rejects_votes}
use Rattle.gate_check.proofs.meeting.rejects_values.Given as goal

-- it is left to test the rest
abbrev pub invariant-loop-value : goal.invariant-loop-value
invariant-loop-value l = each (rejects_votes l.rejected l.pattern l.rule.label) l.value-items
    ≡ each (rejects_votes l.rejected l.pattern l.rule.label) (drop l.value-index l.value-items)
