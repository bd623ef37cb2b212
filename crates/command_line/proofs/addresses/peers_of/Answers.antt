use Rattle.std.proofs.Common.{subst, arith}
use Rattle.std.proofs.lemmas.List.{take_all}
use Rattle.std.specs.List.{AllZip}
use Rattle.lattice_core.specs.ZipLaws.{AllZip-more}
use Rattle.site_address.specs.Peer.{NamesPeer}
use Rattle.command_line.proofs.Reading.{none_said, zip_over}
use Rattle.command_line.proofs.addresses.peers_of.Goals as goal

pub returns-in_default : goal.returns-in_default
returns-in_default c =
    none_said NamesPeer c.args.texts.now c.loop-text.text-index _ c.loop-text-test.true c.in_default.ensures.named

pub loop-text-preserved : goal.loop-text-preserved
loop-text-preserved c =
    rw c.in_ok-push.ensures.items
    (AllZip-more (λ text peer. NamesPeer text.now peer) c.args.texts.now c.loop-text.peers.items c.loop-text.text-index _ c.in-Some.peer c.loop-text-test.true c.loop-text.invariant c.in-Some.ensures.named)

pub returns : goal.returns
returns c =
    let texts = c.args.texts.now in
    zip_over (λ text. text.now) NamesPeer texts c.loop-text.peers.items
    (subst (λ l. AllZip (λ text peer. NamesPeer text.now peer) l c.loop-text.peers.items) (take_all c.loop-text.text-index texts (omega (arith, c.loop-text-test.false))) c.loop-text.invariant)
