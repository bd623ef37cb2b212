use Rattle.std.proofs.Common.{◌≡◌, ◌++◌, List, ℕ, length}
use Rattle.sealed_ends.specs.Sent.{IsTakenWhole}
use Rattle.sealed_ends.proofs.drain.send.Given as goal

-- the drain took a front of the line, and the rest is to come
abbrev pub invariant-loop-rest : goal.invariant-loop-rest
invariant-loop-rest g l =
    (front : List ℕ) × (l.line ≡ front ++ l.rest) × IsTakenWhole (g.D.Drain.taken l.initial.drain) (g.D.Drain.taken l.drain) l.initial.sent l.sent front

abbrev pub decreases-loop-rest : goal.decreases-loop-rest
decreases-loop-rest g l = length l.rest
