-- What a site answers to a feed beside what the feed offers.
use Rattle.std.specs.Prelude.{Bool, List, Result, Ok, Err}
use Rattle.review_ops.specs.Operation.{Operation}
use Rattle.feed_client.specs.declared.intake.IntakeFault.{IntakeFault}

-- operations that a site answers, and whether there is more to take up
pub record SiteRound : Type 0 where
  pub ops : List Operation
  pub more : Bool

-- what a call's result answers
abbrev pub round_by : {T : Type 0} → (T → SiteRound) → Result T IntakeFault → Result SiteRound IntakeFault
round_by round (Ok value) = Ok (round value)
round_by round (Err fault) = Err fault
