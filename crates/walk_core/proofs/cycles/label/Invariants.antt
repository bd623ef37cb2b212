use Rattle.std.proofs.Common.{take}
use Rattle.walk_core.specs.Components.{AreLabelled}
use Rattle.walk_core.proofs.cycles.label.Given as goal

abbrev pub invariant-loop-node : goal.invariant-loop-node
invariant-loop-node g l = AreLabelled (take l.node-index l.nodes) l.first l.initial.firsts.items l.firsts.items
