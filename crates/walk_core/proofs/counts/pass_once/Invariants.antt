use Rattle.std.proofs.Common.{take}
use Rattle.walk_core.specs.Marks.{Passes}
use Rattle.walk_core.proofs.counts.pass_once.Given as goal

abbrev pub invariant-loop-node : goal.invariant-loop-node
invariant-loop-node g l =
    Passes l.graph l.firsts (take l.node-index l.nodes) l.initial.rows.items l.rows.items l.changes
