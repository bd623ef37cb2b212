use Rattle.std.specs.Prelude.{IfErr, IfOk}
use Rattle.site_serve.specs.Answered.{SaysFault, SaysStamp}
use Rattle.site_serve.proofs.Seating.{seated_own}
use Rattle.site_serve.proofs.places.Places.take_answer.Goals as goal

pub returns-clause-own : goal.returns-clause-own
returns-clause-own g c session is same =
    seated_own c.args.self.now.sessions.items c.args.place c.in-Some.slot.now c.answer_at.new.slot session
    (λ after. IfOk c.args.answer (λ done. SaysStamp done.stamp session.outbox after.outbox))
    (λ after. IfErr c.args.answer (λ fault. SaysFault fault session.outbox after.outbox)) c.in-Some.ensures.item.0
    c.in-Some.ensures.value is (λ has. c.answer_at.ensures.own session has same)
