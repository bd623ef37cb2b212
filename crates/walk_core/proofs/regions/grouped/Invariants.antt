use Rattle.std.proofs.Common.{map, take}
use Rattle.walk_core.specs.Regions.{AreGrouped}
use Rattle.walk_core.proofs.regions.grouped.Given as goal

abbrev pub invariant-loop-node : goal.invariant-loop-node
invariant-loop-node g l = AreGrouped l.labels (take l.node-index l.nodes) (map (λ row. row.items) l.rows.items)
