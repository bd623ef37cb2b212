use Rattle.std.proofs.Common.{take}
use Rattle.std.specs.Prelude.{MatchBool}
use Rattle.std.specs.List.{AllZip}
use Rattle.gate_check.specs.Unused.{IsUnusedBase, messages_in}
use Rattle.gate_check.proofs.unused.unused_bases.Given as goal

-- it is told of the bases so far
abbrev pub invariant-loop-place : goal.invariant-loop-place
invariant-loop-place l = AllZip
    (λ base is_so. MatchBool is_so
    (IsUnusedBase l.bases (messages_in l.state) base) (¬ IsUnusedBase l.bases (messages_in l.state) base))
    (take l.place l.bases) l.unused.items
