use Rattle.std.proofs.Common.{take}
use Rattle.ready_core.specs.Causes.{AreCauses}
use Rattle.ready_core.proofs.causes.all_causes.Given as goal

abbrev pub invariant-loop-place : goal.invariant-loop-place
invariant-loop-place l = AreCauses l.gate l.state (take l.place l.graph.items) l.causes.items
