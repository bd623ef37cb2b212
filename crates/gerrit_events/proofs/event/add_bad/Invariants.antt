use Rattle.std.proofs.Common.{◌≡◌, ◌++◌}
use Rattle.std.specs.Prelude.{replicate}
use Rattle.gerrit_events.specs.Claims.{bad}
use Rattle.gerrit_events.proofs.event.add_bad.Given as goal

-- so many were added
abbrev pub invariant-loop-lost : goal.invariant-loop-lost
invariant-loop-lost l = l.claims.items ≡ l.initial.claims.items ++ replicate l._lost (bad l.key)
