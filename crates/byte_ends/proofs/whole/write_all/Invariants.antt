use Rattle.std.proofs.Common.{◌≡◌, ◌++◌, List, ℕ, length}
use Rattle.std.specs.Io.KnownBytes.{Appends}
use Rattle.byte_ends.proofs.whole.write_all.Given as goal

-- the drain took a front of the bytes, and the rest is to come
abbrev pub invariant-loop-rest : goal.invariant-loop-rest
invariant-loop-rest g l =
    ((front : List ℕ) × (l.bytes ≡ front ++ l.rest) × Appends (g.D.Drain.taken l.initial.drain) (g.D.Drain.taken l.drain) front)
    × (g.D.Drain.failed l.drain ≡ g.D.Drain.failed l.initial.drain)

abbrev pub decreases-loop-rest : goal.decreases-loop-rest
decreases-loop-rest g l = length l.rest
