use Rattle.std.proofs.Common.{◌<◌, ◌≡◌, Err, length, subst, arith, inl, inr, map, slice_set}
use Rattle.std.specs.Prelude.{◌⊎◌}
use Rattle.world_core.specs.declared.event.WorldFault.TheVariants.{NoPacket}
use Rattle.world_core.specs.Numbered.{numbered}
use Rattle.world_core.specs.Step.{AtSite, IsDeliveryOf}
use Rattle.world_core.specs.World.{WorldState}
use Rattle.world_core.proofs.Sites.{delivery_of_none, delivery_of_one}
use Rattle.world_core.proofs.machine.Machine.deliver.Goals as goal

pub returns-in_default-place_of : goal.returns-in_default-place_of
returns-in_default-place_of g c =
    let within : c.in-Some.place < length c.self.inside.sites.items = omega (arith, c.in-Some.ensures.1, c.len.ensures, c.self.inside.sites.ok.0) in
    let none = elim c.in_default-place_of.ensures as (λ _. (c.args.packet ≡ 0) ⊎ (length c.self.inside.packets.items < c.args.packet)) [ inl e ↦ inl e | inr past ↦ inr (omega (arith, past, c.len-2.ensures, c.self.inside.packets.ok.0)) ] in
    subst (λ w. AtSite (IsDeliveryOf (numbered w.packets c.args.packet)) c.args.site w (Err NoPacket) w) c.self.view_is
    (delivery_of_none (λ packet. packet.items) c.self.inside.sites.items c.self.inside.packets.items c.args.site c.in-Some.place c.args.packet c.in-Some.ensures.0 within none)

pub returns : goal.returns
returns g c =
    let within : c.in-Some.place < length c.self.inside.sites.items = omega (arith, c.in-Some.ensures.1, c.len.ensures, c.self.inside.sites.ok.0) in
    let within_packets : c.in-Some-place_of.packet < length c.self.inside.packets.items = omega (arith, c.in-Some-place_of.ensures.1, c.len-2.ensures, c.self.inside.packets.ok.0) in
    let after : WorldState = record {
      sites = slice_set c.self.inside.sites.items c.in-Some.place c.deliver.new.self;
      packets = map (λ packet. packet.items) c.self.inside.packets.items;
    } in
    subst (λ w. AtSite (IsDeliveryOf (numbered w.packets c.args.packet)) c.args.site w c.deliver.result after) c.self.view_is
    (delivery_of_one (λ packet. packet.items) c.self.inside.sites.items c.self.inside.packets.items c.args.site c.in-Some.place c.in-Some-place_of.packet c.args.packet
    c.index_mut-at.result.now c.deliver.new.self c.index.result.now c.as_slice.result.now c.deliver.result
    c.in-Some.ensures.0 within c.index_mut-at.ensures.value c.in-Some-place_of.ensures.0 within_packets c.index.ensures c.as_slice.ensures.value c.deliver.ensures)
