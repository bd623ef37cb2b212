use Rattle.walk_core.specs.Components.{AreReleased}
use Rattle.std.proofs.Common.{take}
use Rattle.walk_core.proofs.component.release.Given as goal

abbrev pub invariant-loop-node : goal.invariant-loop-node
invariant-loop-node g l = AreReleased (take l.node-index l.nodes) l.initial.places.items l.places.items
