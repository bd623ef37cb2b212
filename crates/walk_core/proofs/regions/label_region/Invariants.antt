use Rattle.std.proofs.Common.{◌+◌, ◌*◌, ◌^◌, ◌<◌, length}
use Rattle.std.specs.List.{All}
use Rattle.walk_core.proofs.Labels.{IsLabelling, unlabelled}
use Rattle.walk_core.proofs.regions.label_region.Given as goal

abbrev pub invariant-loop-node : goal.invariant-loop-node
invariant-loop-node g l = record {
  labelling : IsLabelling l.graph l.kept l.start l.initial.labels.items l.labels.items l.ahead.items;
  within : All (λ x. x < length l.graph) l.ahead.items;
}

-- each turn labels a node, and puts less than 2 ^ 64 nodes ahead, or takes one from those ahead
abbrev pub decreases-loop-node : goal.decreases-loop-node
decreases-loop-node g l = unlabelled l.labels.items * 2 ^ 64 + length l.ahead.items
