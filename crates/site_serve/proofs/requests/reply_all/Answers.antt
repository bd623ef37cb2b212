use Rattle.std.proofs.Common.{◌∷◌, ◌++◌, ◌∙◌, [], ap, subst, sym, take}
use Rattle.std.proofs.lemmas.List.{take_more}
use Rattle.site_serve.specs.Answered.{AreAnswered}
use Rattle.site_serve.proofs.Replies.{one_after}
use Rattle.site_serve.proofs.requests.reply_all.Goals as goal

pub loop-waiter-preserved : goal.loop-waiter-preserved
loop-waiter-preserved g c =
    let waiters = c.args.waiters.now in
    let index = c.loop-waiter.waiter-index in
    let waiter = c.waiter-item.result in
    let old = c.args.places.now.sessions.items in
    let new = c.reply_one.new.places.sessions.items in
    subst (λ l. AreAnswered old new (λ s. s.number) (λ s. s.outbox) l)
    (sym (take_more waiters index waiter c.loop-waiter-test.true
    ∙ ap (λ w. take index waiters ++ w ∷ []) (sym c.waiter-item.is)))
    (one_after (λ s. s.number) (λ s. s.outbox) (take index waiters) waiter old c.loop-waiter.places.sessions.items new
    c.loop-waiter.invariant c.reply_one.ensures)
