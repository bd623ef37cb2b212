use Rattle.std.proofs.Common.{take}
use Rattle.pull_guard.specs.Guards.{AreAllowed}
use Rattle.pull_guard.proofs.guard.Guard.admit.Given as goal

-- all those before are let in
abbrev pub invariant-loop-op : goal.invariant-loop-op
invariant-loop-op l = AreAllowed l.self l.latest (take l.op-index l.ops)
