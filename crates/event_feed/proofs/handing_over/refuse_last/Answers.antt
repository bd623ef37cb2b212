use Rattle.std.proofs.Common.{inl, subst}
use Rattle.event_feed.specs.Feed.{HandsLast}
use Rattle.event_feed.proofs.handing_over.refuse_last.Goals as goal

pub returns-in-Ok : goal.returns-in-Ok
returns-in-Ok g c = inl (subst (λ parsed. HandsLast g.T.Taker.takes c.args.number parsed c.args.taker.now c.hand_last.new.taker c.args.ending c.hand_last.result) c.in-Ok.ensures c.hand_last.ensures)
