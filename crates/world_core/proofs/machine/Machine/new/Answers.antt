use Rattle.std.proofs.Common.{◌≡◌, arith}
use Rattle.world_core.proofs.Sites.{new_made}
use Rattle.world_core.proofs.machine.Machine.new.Goals as goal

pub returns : goal.returns
returns g c =
    let reached : c.loop.counter ≡ c.args.sites = omega arith in
    new_made (λ packet. packet.items) c.loop.all.items c.new-2.result.items c.loop.counter c.args.sites c.loop.invariant reached c.new-2.ensures.items
