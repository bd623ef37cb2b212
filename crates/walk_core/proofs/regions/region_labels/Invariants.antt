use Rattle.walk_core.proofs.Labels.{AreRegionsTo}
use Rattle.walk_core.proofs.regions.region_labels.Given as goal

abbrev pub invariant-loop-node : goal.invariant-loop-node
invariant-loop-node g l = AreRegionsTo l.graph l.kept l.labels.items l.node
