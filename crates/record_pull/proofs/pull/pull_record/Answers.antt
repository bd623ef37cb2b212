use Rattle.std.proofs.Common.{◌≡◌, rules, [], List, subst, sym}
use Rattle.gossip_line.specs.Pull.{Fails}
use Rattle.gossip_line.specs.Session.{Moment}
use Rattle.line_reader.specs.Lines.{line_limit}
use Rattle.record_pull.specs.Pulling.{Comes, Gathers, most_rounds}
use Rattle.review_ops.specs.Operation.{Operation}
use Rattle.record_pull.proofs.Coming.{comes, may_fail}
use Rattle.record_pull.proofs.pull.pull_record.Goals as goal

pub returns-in-Err-clause-unpulled : goal.returns-in-Err-clause-unpulled
returns-in-Err-clause-unpulled g c =
    let none : c.new-record.result ≡ [] = search rules in
    let after : Moment (List Operation) = record {
      port = c.pull_rounds.new.sink;
      left = g.S.Source.left c.pull_rounds.new.source;
      taken = g.D.Drain.taken c.pull_rounds.new.drain;
      unread = g.S.Source.failed c.pull_rounds.new.source;
      unwritten = g.D.Drain.failed c.pull_rounds.new.drain;
    } in (
      c.pull_rounds.new.sink,
      subst (λ (journal : List Operation). Fails Gathers line_limit most_rounds (record {
        port = journal;
        left = g.S.Source.left c.args.source.now;
        taken = g.D.Drain.taken c.args.drain.now;
        unread = g.S.Source.failed c.args.source.now;
        unwritten = g.D.Drain.failed c.args.drain.now;
      }) after c.in-Err.fault) none c.in-Err.ensures,
    )

pub returns-in-Err-clause-fault : goal.returns-in-Err-clause-fault
returns-in-Err-clause-fault g c =
    let before : Moment (List Operation) = record {
      port = c.new-record.result;
      left = g.S.Source.left c.args.source.now;
      taken = g.D.Drain.taken c.args.drain.now;
      unread = g.S.Source.failed c.args.source.now;
      unwritten = g.D.Drain.failed c.args.drain.now;
    } in
    let after : Moment (List Operation) = record {
      port = c.pull_rounds.new.sink;
      left = g.S.Source.left c.pull_rounds.new.source;
      taken = g.D.Drain.taken c.pull_rounds.new.drain;
      unread = g.S.Source.failed c.pull_rounds.new.source;
      unwritten = g.D.Drain.failed c.pull_rounds.new.drain;
    } in
    may_fail before after c.in-Err.fault c.in-Err.ensures

pub returns-else-pulled-clause-came : goal.returns-else-pulled-clause-came
returns-else-pulled-clause-came g c =
    let before : Moment (List Operation) = record {
      port = c.new-record.result;
      left = g.S.Source.left c.args.source.now;
      taken = g.D.Drain.taken c.args.drain.now;
      unread = g.S.Source.failed c.args.source.now;
      unwritten = g.D.Drain.failed c.args.drain.now;
    } in
    let after : Moment (List Operation) = record {
      port = c.pull_rounds.new.sink;
      left = g.S.Source.left c.pull_rounds.new.source;
      taken = g.D.Drain.taken c.pull_rounds.new.drain;
      unread = g.S.Source.failed c.pull_rounds.new.source;
      unwritten = g.D.Drain.failed c.pull_rounds.new.drain;
    } in
    let none : c.new-record.result ≡ [] = search rules in
    subst Comes (sym c.into_replica.ensures) (comes before after c.in-Ok.pulled none c.in-Ok.ensures)
