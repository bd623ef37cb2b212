use Rattle.std.proofs.Common.{map}
use Rattle.gate_check.specs.Unused.{HasValue, IsSought, SomeIs}
use Rattle.gate_check.proofs.unused.Sought.is_in_message.Given as goal

-- it isn't in the lines so far
abbrev pub invariant-loop-line : goal.invariant-loop-line
invariant-loop-line l = ¬ SomeIs (HasValue (IsSought l.self)) (map (λ line. line.now) l.yielded)
