use Rattle.std.proofs.Common.{◌≡◌}
use Rattle.gossip_line.specs.Texts.{refusal_line}
use Rattle.site_port.specs.declared.fault.PortFault.TheVariants.{Closed}
use Rattle.site_serve.specs.Outboxes.{AddsEach}
use Rattle.site_serve.specs.Rights.{IsSameAccess}
use Rattle.site_serve.proofs.session.Session.refuse_times.Given as goal

-- it was refused as often as this was done
abbrev pub invariant-loop : goal.invariant-loop
invariant-loop g l =
    AddsEach l.counter (refusal_line Closed) l.initial.self.outbox l.self.outbox
    × (l.self.inbox ≡ l.initial.self.inbox) × IsSameAccess l.initial.self l.self
