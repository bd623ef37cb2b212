use Rattle.std.proofs.Common.{map}
use Rattle.event_filter.proofs.Children.{Completes}
use Rattle.event_filter.proofs.asking.add_children.Given as goal

-- what the changes that are left add completes the children
abbrev pub invariant-loop-number : goal.invariant-loop-number
invariant-loop-number l = Completes l.parent l.state (map (λ pair. (pair.0, pair.1)) l.number-iterator) l.initial.asks l.asks
