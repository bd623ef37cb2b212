use Rattle.std.proofs.Common.{codes}
use Rattle.page_text.specs.Samples as samples
use Rattle.page_text.proofs.Adding.{adds_then3}
use Rattle.page_text.proofs.metrics_work.add_work.Goals as goal

pub returns : goal.returns
returns c =
    let facts = c.args.facts.now in
    adds_then3 c.args.text.now c.add_gauge.new.text c.add_gauge-2.new.text
    c.add_counter.new.text c.add_counter-2.new.text
    (samples.gauge (codes "reviewgate_workers") (codes "Threads that look at the record for sessions.") facts.workers)
    (samples.gauge (codes "reviewgate_busy_workers")
    (codes "Threads that look at the record for sessions just now.") facts.busy_workers)
    (samples.counter (codes "reviewgate_session_faults_total")
    (codes "Sessions that ended with a fault since the start.") facts.session_faults)
    (samples.counter (codes "reviewgate_refused_connections_total")
    (codes "Connections that were closed since the start because as many as may be were open.")
    facts.refused_connections)
    c.add_gauge.ensures c.add_gauge-2.ensures c.add_counter.ensures c.add_counter-2.ensures
