use Rattle.std.proofs.Common.{◌++◌, List, map}
use Rattle.review_ops.specs.Deed.{Deed}
use Rattle.event_filter.specs.Bringing.{AreBodies}
use Rattle.event_filter.specs.Vanishing.{abandons, abandons_among}
use Rattle.event_filter.proofs.vanishing.vanished.Given as goal

-- what the changes that are left add completes the abandons
abbrev pub invariant-loop-number : goal.invariant-loop-number
invariant-loop-number l = (rest : List Deed)
    → AreBodies (abandons_among l.listed (map (λ pair. (pair.0, pair.1)) l.number-iterator)) rest
    → AreBodies (abandons l.listed l.state) (l.bodies.items ++ rest)
