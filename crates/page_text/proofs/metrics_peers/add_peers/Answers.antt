use Rattle.page_text.specs.Metrics as metrics
use Rattle.page_text.proofs.Adding.{adds_then3}
use Rattle.page_text.proofs.metrics_peers.add_peers.Goals as goal

pub returns : goal.returns
returns c =
    let peers = c.args.peers.now in
    adds_then3 c.args.text.now c.add_figures.new.text c.add_figures-2.new.text c.add_figures-3.new.text
    c.add_figures-4.new.text (metrics.up_text peers) (metrics.ages_text peers) (metrics.pulls_text peers)
    (metrics.failures_text peers) c.add_figures.ensures c.add_figures-2.ensures c.add_figures-3.ensures
    c.add_figures-4.ensures
