use Rattle.std.proofs.Common.{subst, sym}
use Rattle.std.specs.Io.KnownBytes.{Consumes}
use Rattle.site_journal.proofs.Steps.{refused_all}
use Rattle.site_journal.proofs.reading.Reading.read_block.Goals as goal

pub returns-in-Err-clause-refused : goal.returns-in-Err-clause-refused
returns-in-Err-clause-refused g c = λ came read.
    refused_all (g.F.Feed.left c.args.feed.now)
    (g.F.Feed.left c.read.new.self) c.split_at.result.0.now came c.in-Err.fault
    (subst (Consumes (g.F.Feed.left c.args.feed.now) (g.F.Feed.left c.read.new.self)) (sym c.split_at.ensures.front) c.in-Ok.ensures.bytes.0)
    (c.in-Err.ensures.err came read)
