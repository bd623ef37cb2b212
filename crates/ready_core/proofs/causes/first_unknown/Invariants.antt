use Rattle.std.proofs.Common.{ℕ, ◌<◌, get_or}
use Rattle.state_core.specs.Known.{IsKnown}
use Rattle.ready_core.proofs.causes.first_unknown.Given as goal

abbrev pub invariant-loop-target : goal.invariant-loop-target
invariant-loop-target l = (k : ℕ) → k < l.target-index → IsKnown l.state (get_or l.targets k 0)
