use Rattle.std.proofs.Common.{◌++◌, ◌∷◌, [], sym, subst}
use Rattle.gerrit_events.specs.Reading.{ClaimsAreSettled}
use Rattle.gerrit_events.proofs.Settled.{settled_more}
use Rattle.gerrit_events.proofs.read.settled.Goals as goal

pub loop-claim-preserved : goal.loop-claim-preserved
loop-claim-preserved c =
    subst (ClaimsAreSettled (c.loop-claim.yielded ++ c.in-Some.claim ∷ [])) (sym c.in_ok-push.ensures.items)
    (settled_more c.loop-claim.yielded c.loop-claim.findings.items c.in-Some.claim
    c.settled.result c.loop-claim.invariant c.settled.ensures)
