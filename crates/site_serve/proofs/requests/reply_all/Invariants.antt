use Rattle.std.proofs.Common.{take}
use Rattle.site_serve.specs.Answered.{AreAnswered}
use Rattle.site_serve.proofs.requests.reply_all.Given as goal

-- the waiters so far are answered
abbrev pub invariant-loop-waiter : goal.invariant-loop-waiter
invariant-loop-waiter g l = AreAnswered l.initial.places.sessions.items l.places.sessions.items
    (λ session. session.number) (λ session. session.outbox) (take l.waiter-index l.waiters)
