-- What is known of each operation that a replica holds.
use Rattle.std.specs.Prelude.{List, [], ◌∷◌}
use Rattle.review_ops.specs.Timestamp.{IsNumbered}
use Rattle.review_ops.specs.Good.{IsGood}
use Rattle.review_ops.specs.Operation.{Operation}

-- its stamp is numbered from 1 and its deed is good
pub record IsSound (op : Operation) : Type 0 where
  pub numbered : IsNumbered op.stamp
  pub good : IsGood op.deed

abbrev pub AreSoundOperations : List Operation → Type 0
AreSoundOperations [] = Unit {0}
AreSoundOperations (op ∷ ops) = IsSound op × AreSoundOperations ops
