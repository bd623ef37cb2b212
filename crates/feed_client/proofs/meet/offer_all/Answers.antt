use Rattle.std.proofs.Common.{Err, sym, subst, inl, inr, refl}
use Rattle.std.proofs.lemmas.Result.{err_from_is_err_and}
use Rattle.feed_client.specs.InTurn.{InTurn}
use Rattle.feed_client.specs.Meeting.{Offers, FeedPlace}
use Rattle.feed_client.proofs.meet.offer_all.Goals as goal

pub loop-body-preserved : goal.loop-body-preserved
loop-body-preserved g c =
    let here : FeedPlace _ = record {
      site = c.loop-body.site;
      state = c.loop-body.state;
      errors = record {
        taken = g.E.Drain.taken c.loop-body.errors;
        failed = g.E.Drain.failed c.loop-body.errors;
      };
    } in
    let next : FeedPlace _ = record {
      site = c.offer.new.site;
      state = c.offer.new.state;
      errors = record { taken = g.E.Drain.taken c.offer.new.errors; failed = g.E.Drain.failed c.offer.new.errors };
    } in
    λ last ended rest. c.loop-body.invariant last ended
    (subst (λ l. InTurn (Offers g.T.Intake.replies c.args.number) l here last ended) (sym c.in-Some.ensures.steps.0)
    (inl (next, c.in_ok-offer.ensures, rest)))

pub returns-in_err-offer : goal.returns-in_err-offer
returns-in_err-offer g c =
    let p = err_from_is_err_and c.from_residual.result c.from_residual.ensures.1 in
    let here : FeedPlace _ = record {
      site = c.loop-body.site;
      state = c.loop-body.state;
      errors = record {
        taken = g.E.Drain.taken c.loop-body.errors;
        failed = g.E.Drain.failed c.loop-body.errors;
      };
    } in
    let last : FeedPlace _ = record {
      site = c.offer.new.site;
      state = c.offer.new.state;
      errors = record { taken = g.E.Drain.taken c.offer.new.errors; failed = g.E.Drain.failed c.offer.new.errors };
    } in
    let fault = c.in_err-offer.field-0.0 in
    rw (p.1, p.2) (c.loop-body.invariant last (Err fault)
    (subst (λ l. InTurn (Offers g.T.Intake.replies c.args.number) l here last (Err fault)) (sym c.in-Some.ensures.steps.0)
    (inr (fault, refl, c.in_err-offer.ensures))))
