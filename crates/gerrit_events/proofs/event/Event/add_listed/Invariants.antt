use Rattle.std.proofs.Common.{◌≡◌, ◌++◌, map}
use Rattle.gerrit_events.specs.Listings.{ballot_shown}
use Rattle.gerrit_events.proofs.event.Event.add_listed.Given as goal

-- the ballots so far
abbrev pub invariant-loop-mark : goal.invariant-loop-mark
invariant-loop-mark l = map ballot_shown l.ballots.items
    ≡ map ballot_shown l.initial.ballots.items ++ map ballot_shown l.yielded
