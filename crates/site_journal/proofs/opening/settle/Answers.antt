use Rattle.site_journal.proofs.Starting.{none_torn}
use Rattle.site_journal.proofs.opening.settle.Goals as goal

pub returns-then-torn-eq0-clause-ok : goal.returns-then-torn-eq0-clause-ok
returns-then-torn-eq0-clause-ok g c = (none_torn c.args.len c.args.torn c.sync.result (g.T.Feed.image c.args.tape.now) (g.T.Feed.image c.sync.new.self) c.if-torn-eq0.true c.requires c.sync.ensures.synced).0

pub returns-then-torn-eq0-clause-err : goal.returns-then-torn-eq0-clause-err
returns-then-torn-eq0-clause-err g c = (none_torn c.args.len c.args.torn c.sync.result (g.T.Feed.image c.args.tape.now) (g.T.Feed.image c.sync.new.self) c.if-torn-eq0.true c.requires c.sync.ensures.synced).1
