use Rattle.std.proofs.Common.{ap}
use Rattle.page_text.specs.Site.{peer_tokens}
use Rattle.page_text.proofs.Marks.{notes_more, notes_none, notes_same}
use Rattle.page_text.proofs.json_status.add_peers.Goals as goal

pub loop-peer-init : goal.loop-peer-init
loop-peer-init c = notes_none c.args.out.now

pub loop-peer-preserved : goal.loop-peer-preserved
loop-peer-preserved c =
    notes_more peer_tokens c.args.peers.now c.loop-peer.peer-index _ c.loop-peer-test.true c.loop-peer.invariant
    (notes_same c.add_peer.ensures (ap peer_tokens c.peer-item.is))
