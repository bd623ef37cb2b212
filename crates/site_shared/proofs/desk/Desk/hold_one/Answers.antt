-- What is next stays what is published with what is held.
use Rattle.std.proofs.Common.{sym, ap, ◌∙◌}
use Rattle.site_shared.specs.Accounts.{record_of}
use Rattle.site_shared.specs.Publishes.{arrive}
use Rattle.site_shared.proofs.Turning.{held_next}
use Rattle.site_shared.proofs.desk.Desk.hold_one.Goals as goal

pub invariant_of-self : goal.invariant_of-self
invariant_of-self c =
    let desk = c.self.inside in
    let whole = c.in_ok-next.ensures.ok ∙ ap record_of (sym c.take_next.ensures.same ∙ sym c.self.view_is) in
    record {
      named = c.self.invariant.named;
      shown = c.self.invariant.shown;
      settled = c.self.invariant.settled;
      spares = c.self.invariant.spares;
      next = held_next (arrive desk.latest.sight.seen.log) desk.held.items c.args.op c.in_ok-next.next c.add_to_both-added.new.next c.add_to_both-added.new.held.items c.add_to_both-added.result whole c.add_to_both-added.ensures.ok c.add_to_both-added.ensures.err;
      opened = c.self.invariant.opened;
    }
