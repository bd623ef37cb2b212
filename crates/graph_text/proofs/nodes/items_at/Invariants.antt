use Rattle.std.proofs.Common.{◌≡◌, map, take}
use Rattle.ready_core.specs.Causes.{item_at}
use Rattle.graph_text.proofs.nodes.items_at.Given as goal

abbrev pub invariant-loop-place : goal.invariant-loop-place
invariant-loop-place l = l.found.items ≡ map (item_at l.items) (take l.place-index l.places)
