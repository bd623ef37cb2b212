use Rattle.std.proofs.Common.{map}
use Rattle.gate_check.specs.Gained.{GainsTexts}
use Rattle.gate_check.specs.Ignored.{LineMisses}
use Rattle.gate_check.specs.Unused.{SomeIs}
use Rattle.gate_check.proofs.ignored.add_message.Given as goal

-- those of the lines so far are added
abbrev pub invariant-loop-line : goal.invariant-loop-line
invariant-loop-line l =
    GainsTexts l.initial.values (λ value. SomeIs (LineMisses l.bases value) (map (λ line. line.now) l.yielded)) l.values
