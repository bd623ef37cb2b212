use Rattle.std.proofs.Common.{◌≡◌, ◌∷◌, ◌++◌, [], Ok, Err, map, length, refl, ap, subst, ◌∙◌, arith}
use Rattle.world_core.specs.declared.event.Reply.TheVariants.{Packet}
use Rattle.world_core.specs.declared.event.WorldFault.TheVariants.{NoMemory}
use Rattle.world_core.specs.Step.{IsSend}
use Rattle.world_core.specs.World.{WorldState}
use Rattle.world_core.proofs.Sites.{at_sender, sent, pushed, not_pushed}
use Rattle.world_core.proofs.machine.Machine.send.Goals as goal

pub returns-then-is_err : goal.returns-then-is_err
returns-then-is_err g c =
    let after : WorldState = record {
      sites = c.self.inside.sites.items;
      packets = map (λ packet. packet.items) c.push.new.self.items;
    } in
    let kept = not_pushed c.push.result c.is_err.result c.push.new.self.items (c.self.inside.packets.items ++ c.in-Ok.missing.ops ∷ []) c.self.inside.packets.items c.is_err.ensures.value c.if-is_err.true c.push.ensures.items in
    at_sender c.args.self.now after c.args.site c.args.front.now c.in-Some.replica.now
    (Err (NoMemory 0)) c.in-Some.ensures
    (refl, ap (λ l. record { sites = c.self.inside.sites.items; packets = map (λ packet. packet.items) l }) kept ∙ c.self.view_is)

pub returns : goal.returns
returns g c =
    let after : WorldState = record {
      sites = c.self.inside.sites.items;
      packets = map (λ packet. packet.items) c.push.new.self.items;
    } in
    let more = pushed c.push.result c.is_err.result c.push.new.self.items (c.self.inside.packets.items ++ c.in-Ok.missing.ops ∷ []) c.self.inside.packets.items c.is_err.ensures.value c.if-is_err.false c.push.ensures.items in
    let count : c.len-count.result ≡ length c.in-Ok.missing.ops.items = omega (arith, c.len-count.ensures, c.in-Ok.missing.ops.ok.0) in
    let number : c.len.result ≡ length c.push.new.self.items = omega (arith, c.len.ensures, c.push.new.self.ok.0) in
    at_sender c.args.self.now after c.args.site c.args.front.now c.in-Some.replica.now
    (Ok (Packet c.len.result c.len-count.result c.in-Ok.missing.more)) c.in-Some.ensures
    (subst (λ w. IsSend c.args.front.now c.in-Some.replica.now w (Ok (Packet c.len.result c.len-count.result c.in-Ok.missing.more)) after) c.self.view_is
    (sent (λ packet. packet.items) c.self.inside.sites.items c.self.inside.packets.items c.push.new.self.items c.args.front.now c.in-Some.replica.now c.in-Ok.ensures.0 c.in-Ok.missing.ops c.len.result c.len-count.result c.in-Ok.missing.more
    c.in-Ok.ensures.1 c.in-Ok.ensures.2 c.in-Ok.ensures.3 count more number))
