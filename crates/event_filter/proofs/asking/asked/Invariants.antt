use Rattle.std.proofs.Common.{take, option_map}
use Rattle.event_filter.specs.Asking.{Gains, IsAskedBy}
use Rattle.event_filter.proofs.Asks.{SomeAsk}
use Rattle.event_filter.proofs.asking.asked.Given as goal

-- what the findings so far ask for
abbrev pub invariant-loop-finding : goal.invariant-loop-finding
invariant-loop-finding l =
    Gains (SomeAsk (IsAskedBy l.state (option_map (λ bases. bases.now) l.bases) l.parsed.part l.is_open) (take l.finding-index l.finding-items))
    l.initial.asks l.asks
