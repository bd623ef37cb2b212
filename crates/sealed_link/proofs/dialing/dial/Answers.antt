use Rattle.std.proofs.Common.{[]}
use Rattle.std.proofs.KnownBytes.{Consumes-nil}
use Rattle.byte_ends.specs.Lines.{as_line}
use Rattle.sealed_line.specs.Greetings.{greeting_text}
use Rattle.sealed_link.specs.Begins.{greeting_of}
use Rattle.sealed_link.proofs.Dialings.{greets_all, ungreeted, ungreeted_reads}
use Rattle.sealed_link.proofs.dialing.dial.Goals as goal

pub returns-in-Ok-clause-reads : goal.returns-in-Ok-clause-reads
returns-in-Ok-clause-reads g c = rw c.key_id.ensures at c.answered.ensures.reads

pub returns-in-Ok-clause-writes : goal.returns-in-Ok-clause-writes
returns-in-Ok-clause-writes g c =
    greets_all (as_line (greeting_text (greeting_of c.args.secret.now c.args.site c.args.nonce))) (g.D.Drain.taken c.args.drain.now)
    (g.D.Drain.taken c.greet.new.drain) c.answered.result (rw c.key_id.ensures at c.in-Ok.ensures.took) c.answered.ensures.other

pub returns-in-Err-clause-reads : goal.returns-in-Err-clause-reads
returns-in-Err-clause-reads g c =
    let left = g.S.Source.left c.args.source.now in
    ([], Consumes-nil left, ungreeted c.args.secret.now (greeting_of c.args.secret.now c.args.site c.args.nonce) left c.in-Err.fault c.in-Err.ensures.fault)

pub returns-in-Err-clause-read_faults : goal.returns-in-Err-clause-read_faults
returns-in-Err-clause-read_faults g c = ungreeted_reads (g.S.Source.failed c.args.source.now) c.in-Err.fault c.in-Err.ensures.fault
