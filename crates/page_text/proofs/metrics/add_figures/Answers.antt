use Rattle.std.proofs.Common.{◌++◌, length}
use Rattle.state_core.specs.State.{state_of}
use Rattle.page_text.specs.Metrics as metrics
use Rattle.markup_text.specs.Adding.{adds_then2}
use Rattle.page_text.proofs.Adding.{adds_of, adds_then3}
use Rattle.page_text.proofs.metrics.add_figures.Goals as goal

pub returns : goal.returns
returns c =
    let facts = c.args.facts.now in
    let gate = c.args.gate.now in
    let verdicts = c.args.verdicts.now in
    let replica = c.args.replica.now in
    let begun = c.args.text.now in
    let recorded = metrics.record_text (length replica) c.args.starts (state_of replica) (length verdicts.ready) in
    let held = metrics.all_held_text gate verdicts.out in
    let site = metrics.site_text facts.site facts.start facts.news_ms in
    let peers = metrics.peers_text facts.peers.items in
    let served = metrics.served_text facts.sessions facts.publishes facts.requests facts.refused_hosts in
    let update = metrics.update_text facts.update_us in
    let first = adds_then3 begun c.add_record.new.text c.add_held.new.text c.add_site.new.text c.add_peers.new.text
    recorded held site peers c.add_record.ensures
    (adds_of c.add_record.new.text c.add_held.new.text (metrics.all_held_text gate) c.out.ensures c.add_held.ensures)
    c.add_site.ensures
    (adds_of c.add_site.new.text c.add_peers.new.text metrics.peers_text c.as_slice.ensures.value c.add_peers.ensures) in
    adds_then2 begun c.add_peers.new.text c.add_served.new.text c.add_update.new.text
    (recorded ++ held ++ site ++ peers) served update first c.add_served.ensures c.add_update.ensures
