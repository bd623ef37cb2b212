use Rattle.std.proofs.Common.{take}
use Rattle.walk_core.specs.Components.{IsLeastOf}
use Rattle.walk_core.proofs.cycles.least.Given as goal

abbrev pub invariant-loop-other : goal.invariant-loop-other
invariant-loop-other l = IsLeastOf (take l.other-index l.others) l.node l.least
