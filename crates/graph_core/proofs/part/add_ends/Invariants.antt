use Rattle.std.proofs.Common.{take}
use Rattle.graph_core.specs.Closure.{AddsCurrent}
use Rattle.graph_core.proofs.part.add_ends.Given as goal

abbrev pub invariant-loop-number : goal.invariant-loop-number
invariant-loop-number l = AddsCurrent l.state (take l.number-index l.number-items) l.initial.ahead.items l.ahead.items
