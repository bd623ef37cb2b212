use Rattle.std.proofs.Common.{◌≡◌, ◌<◌, ℕ, length}
use Rattle.std.specs.List.{Contains}
use Rattle.walk_core.specs.Components.{HasFound, place_of}
use Rattle.walk_core.specs.declared.component.Place.TheVariants.{Waiting}
use Rattle.walk_core.proofs.cycles.Components.find.Given as goal

-- a node that waits comes yet
abbrev pub invariant-loop-node : goal.invariant-loop-node
invariant-loop-node g l = record {
  found : HasFound l.graph l.components;
  ahead : (x : ℕ) → place_of l.components.places.items x ≡ Waiting → Contains l.order.items x;
  within : (x : ℕ) → Contains l.order.items x → x < length l.graph;
}

abbrev pub decreases-loop-node : goal.decreases-loop-node
decreases-loop-node g l = length l.order.items
