use Rattle.std.proofs.Common.{ℕ, take}
use Rattle.std.specs.List.{Contains}
use Rattle.walk_core.specs.Sums.{LacksSum}
use Rattle.walk_core.proofs.leads.have_sums.Given as goal

abbrev pub invariant-loop-node : goal.invariant-loop-node
invariant-loop-node l = (x : ℕ) → Contains (take l.node-index l.nodes) x → ¬ LacksSum l.firsts l.sums x
