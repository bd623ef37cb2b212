use Rattle.std.proofs.Common.{◌≡◌, true, sym, ap, ◌∙◌}
use Rattle.gerrit_events.specs.Listings.{ballot_shown}
use Rattle.gerrit_events.specs.Tests.{some_at}
use Rattle.event_filter.specs.Bringing.{is_ballot_of}
use Rattle.event_filter.proofs.bringing.is_listed.Goals as goal

pub returns-then-is_ballot_of : goal.returns-then-is_ballot_of
returns-then-is_ballot_of c =
    let same : is_ballot_of c.args.label.now c.args.voter.now (ballot_shown c.ballot-item.result) ≡ true = cc in
    sym
    (some_at (is_ballot_of c.args.label.now c.args.voter.now) ballot_shown c.args.ballots.now
    c.loop-ballot.ballot-index c.ballot-item.result c.loop-ballot-test.true
    (ap (λ ballot. is_ballot_of c.args.label.now c.args.voter.now (ballot_shown ballot)) (sym c.ballot-item.is)
    ∙ same))
