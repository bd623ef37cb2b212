use Rattle.std.specs.Prelude.{IfErr, IfOk}
use Rattle.site_serve.specs.Answered.{SaysFault, SaysStamp}
use Rattle.site_serve.proofs.Seating.{answered_own, listed_outbox}
use Rattle.site_serve.proofs.places.answer_at.Goals as goal

pub returns-then-session-number-clause-own : goal.returns-then-session-number-clause-own
returns-then-session-number-clause-own g c session is same =
    answered_own (λ s. s.outbox) (λ old new. IfOk c.args.answer (λ done. SaysStamp done.stamp old new))
    (λ old new. IfErr c.args.answer (λ fault. SaysFault fault old new)) c.args.slot.now session c.in-Some.session
    c.take_answer.new.self c.enlist.new.session is c.in-Some.is
    (listed_outbox c.take_answer.new.self c.enlist.new.session c.enlist.ensures) c.take_answer.ensures.stamp
    c.take_answer.ensures.fault
