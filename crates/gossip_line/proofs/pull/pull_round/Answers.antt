use Rattle.std.proofs.Common.{Err, refl, ap, length, subst, sym}
use Rattle.std.proofs.Common.{Global}
use Rattle.std.specs.Prelude.{String}
use Rattle.std.proofs.lemmas.Result.{err_from_is_err_and}
use Rattle.gossip_line.specs.Pull.{SendsFront}
use Rattle.gossip_line.proofs.Moments.{moment_of}
use Rattle.gossip_line.proofs.Pulling.{front_failed, handed_over, not_read, not_taken}
use Rattle.gossip_line.proofs.pull.pull_round.Goals as goal

pub returns-in_err-asked-clause-pulls : goal.returns-in_err-asked-clause-pulls
returns-in_err-asked-clause-pulls g c =
    let p = err_from_is_err_and c.from_residual.result c.from_residual.ensures.1 in
    let mid = moment_of g.S.Source g.D.Drain c.args.sink.now c.args.source.now c.args.drain.now in
    let after = moment_of g.S.Source g.D.Drain c.front.new.self c.args.source.now c.send_front.new.drain in
    let failed = front_failed g.K.Sink.sinks (String Global) c.args.reader.now.limit mid after c.args.reader.now.held c.in-Ok.front
    c.in_err-asked.field-0.0
    (subst (λ l. SendsFront {T = String Global} l c.in-Ok.front mid.taken after.taken mid.unwritten after.unwritten (Err c.in_err-asked.field-0.0)) (sym c.requires) c.in_err-asked.ensures.sends)
    refl refl c.in-Ok.ensures in
    rw (p.1, p.2) (failed.leaves, failed.counts)

pub returns-in_err-ops-clause-pulls : goal.returns-in_err-ops-clause-pulls
returns-in_err-ops-clause-pulls g c =
    let p = err_from_is_err_and c.from_residual-in_err-ops.result c.from_residual-in_err-ops.ensures.1 in
    let mid = moment_of g.S.Source g.D.Drain c.args.sink.now c.args.source.now c.args.drain.now in
    let after = moment_of g.S.Source g.D.Drain c.front.new.self c.read_round.new.source c.send_front.new.drain in
    let reads = c.in_err-ops.ensures.reads in
    let failed = not_read g.K.Sink.sinks mid after c.in-Ok.front c.args.reader.now reads.0 c.in_err-ops.field-0.0
    c.in-Ok.ensures c.in_ok-asked.ensures.sends reads.1 reads.2 c.in_err-ops.ensures.counted in
    rw (p.1, p.2) (failed.leaves, failed.counts)

pub returns-in-Ok-take_all-clause-pulls : goal.returns-in-Ok-take_all-clause-pulls
returns-in-Ok-take_all-clause-pulls g c =
    let mid = moment_of g.S.Source g.D.Drain c.args.sink.now c.args.source.now c.args.drain.now in
    let after = moment_of g.S.Source g.D.Drain c.take_all.new.self c.read_round.new.source c.send_front.new.drain in
    let reads = c.in_ok-ops.ensures.reads in
    handed_over g.K.Sink.sinks mid after c.front.new.self c.in-Ok.front c.args.reader.now c.read_round.new.reader
    reads.0 c.in_ok-ops.field-0 c.in-Ok.ensures c.in_ok-asked.ensures.sends reads.1 reads.2
    c.in_ok-ops.ensures.counted c.in_ok-asked.asked _ c.in_ok-asked.ensures.line (ap length c.as_slice-count.ensures.value) c.in-Ok-take_all.ensures

pub returns-clause-pulls : goal.returns-clause-pulls
returns-clause-pulls g c =
    let mid = moment_of g.S.Source g.D.Drain c.args.sink.now c.args.source.now c.args.drain.now in
    let after = moment_of g.S.Source g.D.Drain c.take_all.new.self c.read_round.new.source c.send_front.new.drain in
    let reads = c.in_ok-ops.ensures.reads in
    let failed = not_taken g.K.Sink.sinks mid after c.front.new.self c.in-Ok.front c.args.reader.now
    c.read_round.new.reader reads.0 c.in_ok-ops.field-0 c.in-Ok.ensures c.in_ok-asked.ensures.sends reads.1 reads.2
    c.in_ok-ops.ensures.counted c.in-Err-take_all.fault c.declined-in-Err-take_all.result
    c.declined-in-Err-take_all.ensures c.in-Err-take_all.ensures in
    (failed.leaves, failed.counts)
