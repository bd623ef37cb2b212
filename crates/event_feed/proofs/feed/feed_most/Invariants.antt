use Rattle.std.proofs.Common.{◌≡◌, List, [], length}
use Rattle.event_feed.specs.Feed.{Standing, FeedTurn, Turns}
use Rattle.event_feed.specs.declared.progress.Progress.TheVariants.{Unbegun}
use Rattle.event_feed.proofs.feed.feed_most.Given as goal

-- so many lines were taken
abbrev pub invariant-loop-number : goal.invariant-loop-number
invariant-loop-number g l =
    let old : Standing _ = record {
      source = record { left = g.S.Source.left l.initial.source; failed = g.S.Source.failed l.initial.source; held = [] };
      known = [];
      progress = Unbegun;
      taker = l.initial.taker;
    } in
    let now : Standing _ = record {
      source = record { left = g.S.Source.left l.source; failed = g.S.Source.failed l.source; held = l.reader.held };
      known = l.learned.known;
      progress = l.learned.progress;
      taker = l.taker;
    } in
    (turns : List FeedTurn) × (length turns ≡ l.number) × Turns g.T.Taker.rests g.T.Taker.takes l.projects l.limit 1 old turns now
    × (l.reader.limit ≡ l.limit)
