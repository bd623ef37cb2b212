use Rattle.std.proofs.Common.{◌≡◌, map}
use Rattle.gerrit_events.specs.Listings.{ballot_shown, mark_ballot}
use Rattle.gerrit_events.proofs.event.Event.mark_ballots.Given as goal

-- the ballots so far
abbrev pub invariant-loop-mark : goal.invariant-loop-mark
invariant-loop-mark l = map ballot_shown l.ballots.items ≡ map mark_ballot l.yielded
