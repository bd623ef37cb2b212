use Rattle.std.proofs.Common.{Err, sym, subst, inl, inr, refl}
use Rattle.std.proofs.lemmas.Result.{err_from_is_err_and}
use Rattle.feed_client.specs.InTurn.{InTurn}
use Rattle.feed_client.specs.Meeting.{Meets, FeedPlace}
use Rattle.feed_client.proofs.meet.meet_all.Goals as goal

pub loop-finding-preserved : goal.loop-finding-preserved
loop-finding-preserved g c =
    let here : FeedPlace _ = record {
      site = c.loop-finding.site;
      state = c.loop-finding.state;
      errors = record {
        taken = g.E.Drain.taken c.loop-finding.errors;
        failed = g.E.Drain.failed c.loop-finding.errors;
      };
    } in
    let next : FeedPlace _ = record {
      site = c.meet.new.site;
      state = c.meet.new.state;
      errors = record { taken = g.E.Drain.taken c.meet.new.errors; failed = g.E.Drain.failed c.meet.new.errors };
    } in
    λ last ended rest. c.loop-finding.invariant last ended
    (subst (λ l. InTurn (Meets g.T.Intake.replies c.args.number) l here last ended) (sym c.in-Some.ensures.steps.0)
    (inl (next, c.in_ok-meet.ensures, rest)))

pub returns-in_err-meet : goal.returns-in_err-meet
returns-in_err-meet g c =
    let p = err_from_is_err_and c.from_residual.result c.from_residual.ensures.1 in
    let here : FeedPlace _ = record {
      site = c.loop-finding.site;
      state = c.loop-finding.state;
      errors = record {
        taken = g.E.Drain.taken c.loop-finding.errors;
        failed = g.E.Drain.failed c.loop-finding.errors;
      };
    } in
    let last : FeedPlace _ = record {
      site = c.meet.new.site;
      state = c.meet.new.state;
      errors = record { taken = g.E.Drain.taken c.meet.new.errors; failed = g.E.Drain.failed c.meet.new.errors };
    } in
    let fault = c.in_err-meet.field-0.0 in
    rw (p.1, p.2) (c.loop-finding.invariant last (Err fault)
    (subst (λ l. InTurn (Meets g.T.Intake.replies c.args.number) l here last (Err fault)) (sym c.in-Some.ensures.steps.0)
    (inr (fault, refl, c.in_err-meet.ensures))))
