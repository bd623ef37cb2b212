use Rattle.std.proofs.Common.{sym}
use Rattle.std.specs.Duration.{as_nanos}
use Rattle.site_serve.specs.Acknowledged.{session_at}
use Rattle.site_serve.proofs.Waiting.{one_does}
use Rattle.site_serve.proofs.lines.do_next.Goals as goal

pub returns-in-None-clause-one : goal.returns-in-None-clause-one
returns-in-None-clause-one g c =
    one_does (session_at c.args.context.now.place c.args.context.now.number) (as_nanos c.args.context.now.moment)
    c.args.session.now c.do_line.new.session c.next_line.new.self
    (record {
      answers = c.args.session.now.outbox;
      waiters = c.args.group.now.waiters;
      account = c.args.group.now.entries.account;
    })
    (record {
      answers = c.do_line.new.session.outbox;
      waiters = c.do_line.new.group.waiters;
      account = c.do_line.new.group.entries.account;
    })
    c.in-Some.size c.do_line.result (sym c.in-None.ensures) c.next_line.ensures.same c.in-Some.ensures.found
    c.do_line.ensures.does c.do_line.ensures.had c.do_line.ensures.none
