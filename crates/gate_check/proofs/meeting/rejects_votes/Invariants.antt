use Rattle.std.proofs.Common.{◌≡◌, drop}
use Rattle.gate_check.specs.Meeting.{rejects_votes}
use Rattle.gate_check.proofs.meeting.rejects_votes.Given as goal

-- it is left to test the rest
abbrev pub invariant-loop-other : goal.invariant-loop-other
invariant-loop-other l = rejects_votes l.rejected l.pattern l.label l.value
    ≡ rejects_votes (drop l.other-index l.rejected) l.pattern l.label l.value
