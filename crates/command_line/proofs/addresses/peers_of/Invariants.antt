use Rattle.std.proofs.Common.{take}
use Rattle.std.specs.List.{AllZip}
use Rattle.site_address.specs.Peer.{NamesPeer}
use Rattle.command_line.proofs.addresses.peers_of.Given as goal

abbrev pub invariant-loop-text : goal.invariant-loop-text
invariant-loop-text l =
    AllZip (λ text peer. NamesPeer text.now peer) (take l.text-index l.texts) l.peers.items
