use Rattle.std.proofs.Common.{◌≡◌, false, map, take}
use Rattle.std.specs.List.{list_any}
use Rattle.gerrit_events.specs.Listings.{ballot_shown}
use Rattle.event_filter.specs.Bringing.{is_ballot_of}
use Rattle.event_filter.proofs.bringing.is_listed.Given as goal

-- the ballots so far are of other votes
abbrev pub invariant-loop-ballot : goal.invariant-loop-ballot
invariant-loop-ballot l =
    list_any (is_ballot_of l.label l.voter) (map ballot_shown (take l.ballot-index l.ballots)) ≡ false
