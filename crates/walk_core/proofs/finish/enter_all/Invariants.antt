use Rattle.std.proofs.Common.{◌≡◌, ◌++◌, map, take}
use Rattle.walk_core.specs.declared.finish.Task.TheVariants.{Enter}
use Rattle.walk_core.proofs.finish.enter_all.Given as goal

abbrev pub invariant-loop-node : goal.invariant-loop-node
invariant-loop-node g l = l.tasks.items ≡ l.initial.tasks.items ++ map Enter (take l.node-index l.nodes)
