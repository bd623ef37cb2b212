use Rattle.std.proofs.Common.{◌+◌, ◌≤◌, length}
use Rattle.walk_core.specs.Levels.{AreKnownTo, IsLevel, unreached}
use Rattle.walk_core.proofs.digraph.Digraph.distances.Given as goal

abbrev pub invariant-loop-alloc : goal.invariant-loop-alloc
invariant-loop-alloc g l = AreKnownTo l.self l.marked l.distance l.search.distances.items
    × IsLevel l.search.distances.items l.distance l.search.level.items
    × (l.distance + (length l.search.level.items + unreached l.search.distances.items) ≤ length l.self)

abbrev pub decreases-loop-alloc : goal.decreases-loop-alloc
decreases-loop-alloc g l = length l.search.level.items + unreached l.search.distances.items
