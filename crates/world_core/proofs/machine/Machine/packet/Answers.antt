use Rattle.std.proofs.Common.{◌≡◌, ◌<◌, Some, length, subst, arith}
use Rattle.world_core.specs.Numbered.{numbered}
use Rattle.world_core.proofs.Sites.{shown_at}
use Rattle.world_core.proofs.machine.Machine.packet.Goals as goal

pub returns : goal.returns
returns g c =
    let place = c.in_ok-place.place in
    let within : place < length c.self.inside.packets.items = omega (arith, c.in_ok-place.ensures.1, c.len.ensures, c.self.inside.packets.ok.0) in
    subst (λ w. Some c.as_slice.result.now ≡ numbered w.packets c.args.number) c.self.view_is
    (shown_at (λ packet. packet.items) c.self.inside.packets.items c.args.number place c.index.result.now c.as_slice.result.now c.in_ok-place.ensures.0 within c.index.ensures c.as_slice.ensures.value)
