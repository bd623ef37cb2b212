use Rattle.std.proofs.Common.{subst, sym}
use Rattle.page_text.specs.Rowless.{AddsRowless}
use Rattle.page_text.proofs.RowlessSteps.{nothing_added, rowless_then}
use Rattle.page_text.proofs.list.add_peers.Goals.{then-not-peer, else-not-peer}
use Rattle.page_text.proofs.list.add_peers.Goals as goal

pub loop-peer-init : goal.loop-peer-init
loop-peer-init c = nothing_added c.args.page.now

pub loop-peer-preserved : goal.loop-peer-preserved
loop-peer-preserved c =
    elim c.if-not-peer.branch [
      | then-not-peer w ↦ subst (AddsRowless c.args.page.now) (sym w.page-is) (rowless_then c.args.page.now c.loop-peer.page w.add_peer.new.page c.loop-peer.invariant w.add_peer.ensures)
      | else-not-peer w ↦ subst (AddsRowless c.args.page.now) (sym w.page-is) c.loop-peer.invariant
    ]
