use Rattle.std.proofs.Common.{◌≡◌, take}
use Rattle.std.specs.Prelude.{◌≢◌}
use Rattle.event_filter.specs.Asking.{Gains, IsUnknown}
use Rattle.event_filter.proofs.Asks.{SomeAsk}
use Rattle.event_filter.proofs.asking.add_needs.Given as goal

-- what the needs so far ask for
abbrev pub invariant-loop-need : goal.invariant-loop-need
invariant-loop-need l =
    Gains (SomeAsk (λ need other. (need ≡ other) × (other ≢ l.change) × IsUnknown l.state other) (take l.need-index l.need-items))
    l.initial.asks l.asks
