use Rattle.std.proofs.Common.{take}
use Rattle.gate_check.specs.Ignored.{BeginsLike}
use Rattle.gate_check.specs.Unused.{SomeIs}
use Rattle.gate_check.proofs.ignored.begins_with_base.Given as goal

-- it begins with none of the bases so far
abbrev pub invariant-loop-place : goal.invariant-loop-place
invariant-loop-place l = ¬ SomeIs (λ base. BeginsLike base l.value) (take l.place l.bases)
