use Rattle.std.proofs.Common.{inl, subst}
use Rattle.event_feed.specs.Steps.{IsHanded}
use Rattle.event_feed.proofs.handing_over.refuse_line.Goals as goal

pub returns-in-Ok : goal.returns-in-Ok
returns-in-Ok g c = inl (subst (λ parsed. IsHanded g.T.Taker.takes c.args.number parsed c.args.progress.now c.hand_over.new.progress c.args.taker.now c.hand_over.new.taker c.hand_over.result) c.in-Ok.ensures c.hand_over.ensures)
