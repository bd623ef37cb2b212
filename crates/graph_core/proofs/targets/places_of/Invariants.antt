use Rattle.std.proofs.Common.{take}
use Rattle.graph_core.specs.Listed.{ArePlaces}
use Rattle.graph_core.proofs.targets.places_of.Given as goal

abbrev pub invariant-loop-number : goal.invariant-loop-number
invariant-loop-number l = ArePlaces l.items (take l.number-index l.numbers) l.places.items
