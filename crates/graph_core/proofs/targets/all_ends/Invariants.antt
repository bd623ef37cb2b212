use Rattle.std.proofs.Common.{take}
use Rattle.std.specs.List.{AllZip}
use Rattle.graph_core.specs.Listed.{ArePlaces}
use Rattle.graph_core.proofs.targets.all_ends.Given as goal

abbrev pub invariant-loop-row : goal.invariant-loop-row
invariant-loop-row l =
    AllZip (λ row places. ArePlaces l.items row.items places.items) (take l.row-index l.rows) l.ends.items
