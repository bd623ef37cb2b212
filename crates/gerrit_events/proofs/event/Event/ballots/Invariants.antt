use Rattle.std.proofs.Common.{◌≡◌, map, take}
use Rattle.std.specs.Prelude.{filter_map}
use Rattle.gerrit_events.specs.Listings.{ballot_of, ballot_shown}
use Rattle.gerrit_events.specs.Trees.{data_in}
use Rattle.gerrit_events.proofs.event.Event.ballots.Given as goal

-- the ballots so far
abbrev pub invariant-loop-approval : goal.invariant-loop-approval
invariant-loop-approval l = map ballot_shown l.ballots.items
    ≡ filter_map ballot_of (map data_in (take l.approval-index l.values))
