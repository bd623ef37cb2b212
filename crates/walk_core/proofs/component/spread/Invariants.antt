use Rattle.std.proofs.Common.{◌+◌, ◌*◌, ◌^◌, ◌<◌, length}
use Rattle.std.specs.List.{All}
use Rattle.walk_core.specs.Components.{IsStep, found_place, sought_place}
use Rattle.walk_core.proofs.Places.{count_at}
use Rattle.walk_core.proofs.Spreading.{IsSpreading}
use Rattle.walk_core.proofs.component.spread.Given as goal

abbrev pub invariant-loop-node : goal.invariant-loop-node
invariant-loop-node g l = record {
  spreading : IsSpreading (IsStep l.graph l.way) (sought_place l.way)
      (found_place l.way) l.start l.initial.places.items l.places.items l.found.items l.ahead.items;
  within : All (λ x. x < length l.graph) l.ahead.items;
}

-- each turn finds a sought node, and puts less than 2 ^ 64 nodes ahead, or takes one from those ahead
abbrev pub decreases-loop-node : goal.decreases-loop-node
decreases-loop-node g l = count_at (sought_place l.way) l.places.items * 2 ^ 64 + length l.ahead.items
