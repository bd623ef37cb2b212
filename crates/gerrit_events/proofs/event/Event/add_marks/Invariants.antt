use Rattle.std.proofs.Common.{◌≡◌, ◌++◌, map}
use Rattle.gerrit_events.specs.Claims.{mark_claim}
use Rattle.gerrit_events.proofs.event.Event.add_marks.Given as goal

-- the marks so far
abbrev pub invariant-loop-mark : goal.invariant-loop-mark
invariant-loop-mark l = l.claims.items ≡ l.initial.claims.items ++ map (mark_claim l.change l.set) l.yielded
