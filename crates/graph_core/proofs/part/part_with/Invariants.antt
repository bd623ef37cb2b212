use Rattle.graph_core.specs.Closure.{IsClosing}
use Rattle.graph_core.proofs.part.part_with.Given as goal

abbrev pub invariant-loop : goal.invariant-loop
invariant-loop l = IsClosing l.gate l.state l.fn.items.items l.found l.ahead.items
