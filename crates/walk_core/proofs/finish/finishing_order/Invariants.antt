use Rattle.std.proofs.Common.{◌≡◌, ◌+◌, ◌*◌, ◌^◌, length, not}
use Rattle.std.specs.List.{count_by}
use Rattle.walk_core.proofs.Tasks.{AreWithin, AreAll}
use Rattle.walk_core.proofs.finish.finishing_order.Given as goal

abbrev pub invariant-loop-task : goal.invariant-loop-task
invariant-loop-task g l = record {
  all : AreAll (length l.graph) l.order.items;
  within : AreWithin (length l.graph) l.tasks.items;
  size : length l.entered.items ≡ length l.graph;
}

-- each turn enters a node, and puts less than 2 ^ 64 tasks ahead, or takes one from those ahead
abbrev pub decreases-loop-task : goal.decreases-loop-task
decreases-loop-task g l = count_by not l.entered.items * 2 ^ 64 + length l.tasks.items
