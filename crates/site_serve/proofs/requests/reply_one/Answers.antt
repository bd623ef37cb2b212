use Rattle.site_serve.proofs.Replies.{says_held, session_answered}
use Rattle.site_serve.proofs.requests.reply_one.Goals as goal

pub returns-in-Session : goal.returns-in-Session
returns-in-Session g c =
    session_answered (λ s. s.number) (λ s. s.outbox) c.args.waiter c.in-Session.place c.in-Session.session
    c.args.places.now.sessions.items c.take_answer.new.self.sessions.items c.in-Session.is
    (record {
      others = c.take_answer.ensures.others;
      strangers = c.take_answer.ensures.strangers;
      own = λ session at same. let after = c.take_answer.ensures.own session at same in (
        after.0,
        after.1,
        says_held (λ done. done.stamp) c.args.waiter.held c.answer_to-answer.result session.outbox after.0.outbox
            c.answer_to-answer.ensures.refused c.answer_to-answer.ensures.memory c.answer_to-answer.ensures.stamp
            after.2 after.3,
      );
    })
