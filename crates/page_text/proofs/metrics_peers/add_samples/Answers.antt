use Rattle.page_text.specs.Metrics.{figure_text}
use Rattle.page_text.proofs.Adding.{adds_item, adds_none}
use Rattle.page_text.proofs.metrics_peers.add_samples.Goals as goal

pub loop-peer-init : goal.loop-peer-init
loop-peer-init c = adds_none c.args.text.now

pub loop-peer-preserved : goal.loop-peer-preserved
loop-peer-preserved c =
    adds_item (figure_text c.args.name.now c.args.figure) c.args.peers.now c.loop-peer.peer-index c.peer-item.result
    c.args.text.now c.loop-peer.text c.add_sample.new.text c.loop-peer-test.true c.peer-item.is c.loop-peer.invariant
    c.add_sample.ensures
