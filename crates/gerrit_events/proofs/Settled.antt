-- One claim more is settled.
use Rattle.std.proofs.Common.{List, [], ◌∷◌, ◌++◌}
use Rattle.gerrit_events.specs.declared.finding.Finding.{Finding}
use Rattle.gerrit_events.specs.Claims.{Claim}
use Rattle.gerrit_events.specs.Reading.{IsSettled, ClaimsAreSettled}

pub settled_more : (claims : List Claim) (findings : List Finding) (claim : Claim) (finding : Finding)
    → ClaimsAreSettled claims findings → IsSettled claim finding → ClaimsAreSettled (claims ++ claim ∷ [])
    (findings ++ finding ∷ [])
settled_more [] [] claim finding so_far one = (one, tt)
settled_more [] (f ∷ findings) claim finding so_far one = absurd so_far
settled_more (c ∷ claims) [] claim finding so_far one = absurd so_far
settled_more (c ∷ claims) (f ∷ findings) claim finding so_far one =
    (so_far.0, settled_more claims findings claim finding so_far.1 one)
