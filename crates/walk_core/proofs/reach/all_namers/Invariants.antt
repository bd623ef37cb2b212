use Rattle.std.proofs.Common.{map}
use Rattle.walk_core.proofs.Reaching.{AreNamers}
use Rattle.walk_core.proofs.reach.all_namers.Given as goal

-- the nodes so far have their rows
abbrev pub invariant-loop-node : goal.invariant-loop-node
invariant-loop-node g l = AreNamers l.graph l.node (map (λ row. row.items) l.rows.items)
