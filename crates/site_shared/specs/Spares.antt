-- The replicas that a desk keeps beside the one that it shows.
use Rattle.std.specs.Prelude.{List, IfSome}
use Rattle.std.specs.Arc.{arc_value}
use Rattle.review_ops.specs.Operation.{Operation}
use Rattle.site_shared.specs.Publishes.{IsFrontPart}
use Rattle.site_shared.specs.declared.spares.Spares.{Spares}

-- each spare has the first operations of the journal
abbrev pub AreSpares : List Operation → Spares → Type 0
AreSpares journal spares =
    IfSome spares.previous (λ spare. IsFrontPart (arc_value spare) journal)
    × IfSome spares.older (λ spare. IsFrontPart (arc_value spare) journal)
    × IfSome spares.reserve (λ spare. IsFrontPart spare journal)
