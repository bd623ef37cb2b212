-- Which item a question is about.
use Rattle.std.proofs.Common.{◌≡◌, ℕ, refl, Option, None, Some}
use Rattle.std.specs.FinMap as finite
use Rattle.change_core.specs.Change.{Change}
use Rattle.change_core.specs.Views.{IsGreatestKnown, IsKnownSet}
use Rattle.state_core.specs.State.{State}
use Rattle.why_text.specs.Asked.{IsItemAsked}

pub asked_current : (state : State) (number set : ℕ) (given : Option ℕ) (change : Change) → given ≡ None
    → finite.get state number ≡ Some change → IsGreatestKnown change set
    → IsItemAsked state number given (record { change = number; set = set })
asked_current state number set None change none stands greatest =
    (record { change = change; stands = stands; greatest = greatest }, refl)
asked_current state number set (Some other) change none stands greatest = cc

pub asked_set : (state : State) (number set : ℕ) (given : Option ℕ) (change : Change) → given ≡ Some set
    → finite.get state number ≡ Some change → IsKnownSet change set
    → IsItemAsked state number given (record { change = number; set = set })
asked_set state number set None change some stands known = cc
asked_set state number set (Some other) change some stands known = let same : set ≡ other = cc in ((change, stands, known), refl, same)
