use Rattle.std.proofs.Common.{take}
use Rattle.event_filter.specs.Lowering.{AreAllLowering}
use Rattle.event_filter.proofs.lowering.all_lowering.Given as goal

-- the bodies of the findings so far
abbrev pub invariant-loop-finding : goal.invariant-loop-finding
invariant-loop-finding l = AreAllLowering l.state (take l.finding-index l.findings) l.bodies.items
