use Rattle.std.proofs.Common.{[]}
use Rattle.site_serve.proofs.run.serve_run.Goals as goal

pub returns-clause-record : goal.returns-clause-record
returns-clause-record g c = let kept = c.serve_keeping-served.ensures.keeps [] tt in (kept.0, kept.2)
