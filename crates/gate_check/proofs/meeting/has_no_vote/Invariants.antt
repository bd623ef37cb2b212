use Rattle.std.proofs.Common.{◌≡◌, drop}
use Rattle.gate_rules.specs.Reading.{each}
use Rattle.gate_check.specs.Meeting.{is_no_vote}
use Rattle.gate_check.proofs.meeting.has_no_vote.Given as goal

-- it is left to test the rest
abbrev pub invariant-loop-value : goal.invariant-loop-value
invariant-loop-value l = each is_no_vote l.values ≡ each is_no_vote (drop l.value-index l.values)
