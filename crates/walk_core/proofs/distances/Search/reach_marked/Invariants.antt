use Rattle.std.proofs.Common.{◌<◌}
use Rattle.walk_core.specs.Digraphs.{IsMarked}
use Rattle.walk_core.specs.Levels.{Discovers}
use Rattle.walk_core.proofs.distances.Search.reach_marked.Given as goal

abbrev pub invariant-loop-node : goal.invariant-loop-node
invariant-loop-node g l = Discovers (λ x. (x < l.node) × IsMarked l.marked x) 0 l.initial.self.distances.items l.initial.self.level.items l.self.distances.items l.self.level.items
