use Rattle.std.proofs.Common.{◌≡◌, drop}
use Rattle.gate_check.specs.Meeting.{rejects_any_label}
use Rattle.gate_check.proofs.meeting.rejects_any_label.Given as goal

-- it is left to test the rest
abbrev pub invariant-loop-other : goal.invariant-loop-other
invariant-loop-other l = rejects_any_label l.rejected l.pattern
    ≡ rejects_any_label (drop l.other-index l.rejected) l.pattern
