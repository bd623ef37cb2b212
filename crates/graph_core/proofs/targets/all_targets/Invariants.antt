use Rattle.std.proofs.Common.{take}
use Rattle.std.specs.List.{AllZip}
use Rattle.graph_core.specs.ItemGraph.{AreTargets}
use Rattle.graph_core.proofs.targets.all_targets.Given as goal

abbrev pub invariant-loop-item : goal.invariant-loop-item
invariant-loop-item l =
    AllZip (λ item row. AreTargets l.gate l.state item row.items) (take l.item-index l.items) l.rows.items
