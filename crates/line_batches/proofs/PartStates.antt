-- States of parts of operations.
use Rattle.std.specs.Prelude.{◌≡◌, ◌++◌, ℕ, List, [], drop, take}
use Rattle.std.proofs.Common.{◌∙◌, sym, ap}
use Rattle.std.proofs.lemmas.List.{take-append-drop}
use Rattle.std.specs.FinMap.{empty}
use Rattle.lattice_core.specs.JoinMap.{maps_join}
use Rattle.lattice_core.specs.Keep.{numbers_exact}
use Rattle.change_core.specs.Change.{changes_join}
use Rattle.review_ops.specs.Operation.{Operation}
use Rattle.state_core.specs.State.{State, state_of, states_joined}
use Rattle.state_core.specs.StateLaws.{state_of-append, state_of-nil}

-- the join of the states of two parts, in whatever order, is the state of both
pub parts_joined : (front back : List Operation) (first rest state : State) → first ≡ state_of front → rest ≡ state_of back
    → state ≡ states_joined rest first → state ≡ state_of (front ++ back)
parts_joined front back first rest state one two is =
    is ∙ (maps_join numbers_exact changes_join).commutes rest first
    ∙ ap (λ s. states_joined s rest) one ∙ ap (states_joined (state_of front)) two
    ∙ sym (state_of-append front back)

-- what is joined to a new state is the state of what was joined
pub first_joined : (ops : List Operation) (state joined : State) → state ≡ empty
    → ((before : List Operation) → state ≡ state_of before → joined ≡ state_of (before ++ ops)) → joined ≡ state_of ops
first_joined ops state joined new is = is [] (new ∙ sym state_of-nil)

-- what a list has up to a place, and what it has from there on, are the list
pub split_joined : {X : Type 0} (place : ℕ) (whole front back : List X) → front ≡ take place whole
    → back ≡ drop place whole → front ++ back ≡ whole
split_joined place whole front back first rest =
    ap (λ l. l ++ back) first ∙ ap (λ l. take place whole ++ l) rest ∙ take-append-drop place whole
