use Rattle.std.proofs.Common.{rules}
use Rattle.std.proofs.KnownBytes.{Keeps-refl}
use Rattle.std.proofs.lemmas.Result.{err_from_is_err_and}
use Rattle.sealed_ends.proofs.Writing.{sent_front, sent_more}
use Rattle.sealed_ends.proofs.drain.send.Goals as goal

pub returns-then-rest-sent-clause-err : goal.returns-then-rest-sent-clause-err
returns-then-rest-sent-clause-err g c =
    let seen = c.loop-rest.invariant in
    let now = g.D.Drain.taken c.loop-rest.drain in
    sent_front (g.D.Drain.taken c.args.drain.now) now now c.args.line.now seen.0 c.loop-rest.rest.now c.args.sent.now c.loop-rest.sent seen.1 seen.2
    (search rules) (Keeps-refl now)

pub returns-in_err-count-clause-err : goal.returns-in_err-count-clause-err
returns-in_err-count-clause-err g c =
    let p = err_from_is_err_and c.from_residual.result c.from_residual.ensures.1 in
    let seen = c.loop-rest.invariant in
    rw p.1 (sent_front (g.D.Drain.taken c.args.drain.now) (g.D.Drain.taken c.loop-rest.drain) (g.D.Drain.taken c.write.new.self) c.args.line.now seen.0
    c.loop-rest.rest.now c.args.sent.now c.loop-rest.sent seen.1 seen.2 (search rules) c.in_err-count.ensures.bytes)

pub loop-rest-preserved : goal.loop-rest-preserved
loop-rest-preserved g c =
    let seen = c.loop-rest.invariant in
    sent_more (g.D.Drain.taken c.args.drain.now) (g.D.Drain.taken c.loop-rest.drain) (g.D.Drain.taken c.write.new.self) c.args.line.now seen.0
    c.loop-rest.rest.now c.args.sent.now c.loop-rest.sent seen.1 seen.2 c.in_ok-count.count c.split_at.result.1.now (search rules) c.split_at.ensures.back c.in_ok-count.ensures.bytes
