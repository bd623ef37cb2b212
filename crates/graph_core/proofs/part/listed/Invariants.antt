use Rattle.std.proofs.Common.{◌≡◌, ◌++◌, map}
use Rattle.graph_core.proofs.Closing.{item_at}
use Rattle.graph_core.proofs.part.listed.Given as goal

-- the items so far, with those that are left, are all
abbrev pub invariant-loop-change : goal.invariant-loop-change
invariant-loop-change l = l.items.items ++ map item_at l.change-iterator ≡ map item_at l.found.keys
