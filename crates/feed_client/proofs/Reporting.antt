-- What writing a text answers.
use Rattle.std.proofs.Common.{◌≡◌, ℕ, List, Result, subst}
use Rattle.event_feed.specs.Ends.{End}
use Rattle.event_feed.specs.declared.fault.FeedFault.{FeedFault}
use Rattle.feed_client.specs.Meeting.{ReportsLoss}

pub reported_as : (text line : List ℕ) (old new : End) (result : Result (Unit {0}) FeedFault) → text ≡ line
    → ReportsLoss text old new result → ReportsLoss line old new result
reported_as text line old new result is h = subst (λ t. ReportsLoss t old new result) is h
