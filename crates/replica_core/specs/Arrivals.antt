-- What arrived at a record, as it is kept: first the operations that copies share, then its own.
use Rattle.std.specs.Prelude.{ℕ, List, [], Option, Some, None}
use Rattle.std.specs.Arc.{arc_value}
use Rattle.std.specs.declared.sync.Arc.{Arc}
use Rattle.std.specs.declared.vec.Vec.{Vec}
use Rattle.review_ops.specs.Operation.{Operation}

-- the operations in their order, and for how many more there is room
pub record Arrived : Type 0 where
  pub items : List Operation
  pub room : ℕ

abbrev pub shared_items : {Z : Type 0} → Option (Arc (Vec Operation Z) Z) → List Operation
shared_items None = []
shared_items (Some ops) = (arc_value ops).items
