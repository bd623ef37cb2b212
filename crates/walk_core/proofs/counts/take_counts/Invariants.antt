use Rattle.std.proofs.Common.{take}
use Rattle.walk_core.specs.Marks.{TakesCounts}
use Rattle.walk_core.proofs.counts.take_counts.Given as goal

abbrev pub invariant-loop-node : goal.invariant-loop-node
invariant-loop-node g l = TakesCounts l.firsts
    (take l.node-index l.nodes) l.initial.rows.items l.rows.items l.initial.counts.items l.counts.items
