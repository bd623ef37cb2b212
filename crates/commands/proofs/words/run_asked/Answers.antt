-- What isn't a command over files is a usage error, and nothing is read or printed.
use Rattle.std.proofs.Common.{refl}
use Rattle.commands.proofs.words.run_asked.Goals as goal

pub returns-in-Serve : goal.returns-in-Serve
returns-in-Serve g c =
    rw c.in-Serve.is (c.report_usage-in-Serve.ensures.shown, c.report_usage-in-Serve.ensures.status, refl)

pub returns-in-Recover : goal.returns-in-Recover
returns-in-Recover g c =
    rw c.in-Recover.is (c.report_usage-in-Recover.ensures.shown, c.report_usage-in-Recover.ensures.status, refl)

pub returns-in-Events : goal.returns-in-Events
returns-in-Events g c =
    rw c.in-Events.is (c.report_usage-in-Events.ensures.shown, c.report_usage-in-Events.ensures.status, refl)

pub returns-in-Queries : goal.returns-in-Queries
returns-in-Queries g c =
    rw c.in-Queries.is (c.report_usage-in-Queries.ensures.shown, c.report_usage-in-Queries.ensures.status, refl)

pub returns : goal.returns
returns g c =
    rw c.in-Enqueue.is (c.report_usage-in-Enqueue.ensures.shown, c.report_usage-in-Enqueue.ensures.status, refl)
