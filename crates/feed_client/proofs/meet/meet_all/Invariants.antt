use Rattle.std.proofs.Common.{Result}
use Rattle.event_feed.specs.declared.fault.FeedFault.{FeedFault}
use Rattle.feed_client.specs.InTurn.{InTurn}
use Rattle.feed_client.specs.Meeting.{Meets, FeedPlace}
use Rattle.feed_client.proofs.meet.meet_all.Given as goal

-- what follows from here follows from the start
abbrev pub invariant-loop-finding : goal.invariant-loop-finding
invariant-loop-finding g l =
    let begun : FeedPlace _ = record {
      site = l.initial.site;
      state = l.initial.state;
      errors = record { taken = g.E.Drain.taken l.initial.errors; failed = g.E.Drain.failed l.initial.errors };
    } in
    let here : FeedPlace _ = record {
      site = l.site;
      state = l.state;
      errors = record { taken = g.E.Drain.taken l.errors; failed = g.E.Drain.failed l.errors };
    } in
    (last : FeedPlace _) (ended : Result (Unit {0}) FeedFault)
    → InTurn (Meets g.T.Intake.replies l.fn.number) l.finding-iterator.rest.items here last ended
    → InTurn (Meets g.T.Intake.replies l.fn.number) l.fn.findings.items begun last ended
