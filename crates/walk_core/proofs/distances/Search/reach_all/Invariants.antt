use Rattle.std.proofs.Common.{take}
use Rattle.std.specs.List.{Contains}
use Rattle.walk_core.specs.Levels.{Discovers}
use Rattle.walk_core.proofs.distances.Search.reach_all.Given as goal

abbrev pub invariant-loop-node : goal.invariant-loop-node
invariant-loop-node g l = Discovers (Contains (take l.node-index l.nodes)) l.distance l.initial.self.distances.items l.initial.self.level.items l.self.distances.items l.self.level.items
