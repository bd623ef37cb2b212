use Rattle.std.proofs.Common.{codes}
use Rattle.page_text.specs.Samples as samples
use Rattle.page_text.proofs.Adding.{adds_then3}
use Rattle.page_text.proofs.metrics.add_served.Goals as goal

pub returns : goal.returns
returns c =
    let facts = c.args.facts.now in
    adds_then3 c.args.text.now c.add_gauge.new.text c.add_counter.new.text
    c.add_counter-2.new.text c.add_counter-3.new.text
    (samples.gauge (codes "reviewgate_open_sessions") (codes "Sessions that are open.") facts.sessions)
    (samples.counter (codes "reviewgate_publishes_total") (codes "Publishes since the start.") facts.publishes)
    (samples.counter (codes "reviewgate_page_requests_total") (codes "Requests of pages since the start.")
    facts.requests)
    (samples.counter (codes "reviewgate_refused_hosts_total")
    (codes "Requests that named a host that is not the site's own since the start.") facts.refused_hosts)
    c.add_gauge.ensures c.add_counter.ensures c.add_counter-2.ensures c.add_counter-3.ensures
