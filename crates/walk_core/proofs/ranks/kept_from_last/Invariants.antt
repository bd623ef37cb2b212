use Rattle.std.proofs.Common.{◌≤◌, length}
use Rattle.walk_core.proofs.Kept.{KeepsFrom}
use Rattle.walk_core.proofs.ranks.kept_from_last.Given as goal

abbrev pub invariant-loop-left : goal.invariant-loop-left
invariant-loop-left g l =
    record { within : l.left ≤ length l.nodes; keeps : KeepsFrom l.kept l.nodes l.left l.found.items }

abbrev pub decreases-loop-left : goal.decreases-loop-left
decreases-loop-left g l = l.left
