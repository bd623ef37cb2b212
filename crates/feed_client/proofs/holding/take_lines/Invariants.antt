use Rattle.std.proofs.Common.{Result}
use Rattle.event_feed.specs.declared.fault.FeedFault.{FeedFault}
use Rattle.feed_client.specs.InTurn.{InTurn}
use Rattle.feed_client.proofs.holding.take_lines.Given as goal

-- what follows from here follows from the start
abbrev pub invariant-loop-line : goal.invariant-loop-line
invariant-loop-line g l =
    (last : g.row.F.Denot) (ended : Result (Unit {0}) FeedFault)
    → InTurn (λ line old new result. g.F.Taker.takes old line.number line.parsed result new) l.line-iterator.rest.items l.feed last ended
    → InTurn (λ line old new result. g.F.Taker.takes old line.number line.parsed result new) l.fn.lines.items l.initial.feed last ended
