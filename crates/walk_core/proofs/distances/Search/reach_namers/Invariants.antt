use Rattle.std.proofs.Common.{take}
use Rattle.walk_core.specs.Levels.{Discovers, LeadsInto}
use Rattle.walk_core.proofs.distances.Search.reach_namers.Given as goal

abbrev pub invariant-loop-node : goal.invariant-loop-node
invariant-loop-node g l = Discovers (LeadsInto l.graph (take l.node-index l.nodes)) l.distance l.initial.self.distances.items l.initial.self.level.items l.self.distances.items l.self.level.items
