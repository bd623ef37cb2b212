use Rattle.gerrit_events.specs.Reading.{ClaimsAreSettled}
use Rattle.gerrit_events.proofs.read.settled.Given as goal

-- the claims so far are settled
abbrev pub invariant-loop-claim : goal.invariant-loop-claim
invariant-loop-claim l = ClaimsAreSettled l.yielded l.findings.items
