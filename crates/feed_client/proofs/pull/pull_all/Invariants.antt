use Rattle.std.proofs.Common.{◌≡◌, ◌<◌, ◌^◌, List, length}
use Rattle.review_ops.specs.Operation.{Operation}
use Rattle.feed_client.specs.Pulling.{AreTaken, all_ops}
use Rattle.feed_client.proofs.pull.pull_all.Given as goal

-- so many rounds came, and their operations were taken into the state
abbrev pub invariant-loop-round : goal.invariant-loop-round
invariant-loop-round g l =
    (rounds : List (List Operation)) × (length rounds ≡ l._round)
    × AreTaken g.T.Intake.answers rounds l.initial.site l.initial.state l.site l.state
    × (length (all_ops rounds) < 2 ^ 64 → l.count ≡ length (all_ops rounds))
