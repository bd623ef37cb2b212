-- From an item that is left out down to the cause, item by item: each waits for the change of the next one. The form is
-- the project's own.
use Rattle.std.specs.Prelude.{◌≡◌, List, [], ◌∷◌, ◌++◌, Some, Contains, length, slice_get}
use Rattle.state_core.specs.State.{State}
use Rattle.state_core.specs.Items.{IsCurrentItem}
use Rattle.state_core.specs.declared.item.Item.{Item}
use Rattle.ready_core.specs.Verdicts.{Judged}
use Rattle.ready_core.specs.declared.verdicts.Left.{Left}
use Rattle.ready_core.specs.declared.verdicts.Refusal.{Refusal}
use Rattle.ready_core.specs.declared.verdicts.Refusal.TheVariants.{Own, Cycle, Unknown, Dependency}

-- an item is left out for a change, whose current item is left out, too
pub record WaitsFor (state : State) (verdicts : Judged) (left next : Left) : Type 0 where
  pub refusal : left.refusal ≡ Dependency next.item.change
  pub current : IsCurrentItem state next.item
  pub out : Contains verdicts.out next

-- each one is so related to the next one
abbrev pub Path : {X : Type 0} → (X → X → Type 0) → List X → Type 0
Path R [] = Unit {0}
Path R (x ∷ []) = Unit {0}
Path R (x ∷ y ∷ rest) = R x y × Path R (y ∷ rest)

-- an item that is left out so waits for no other one
abbrev pub IsCause : Refusal → Type 0
IsCause (Own condition) = Unit {0}
IsCause Cycle = Unit {0}
IsCause (Unknown number) = Unit {0}
IsCause (Dependency number) = ⊥

-- the items from the first one down to the cause: those that wait, as many as the rank of the first says, and the cause
pub record IsChain (state : State) (verdicts : Judged) (first : Left) (waiting : List Left) (cause : Left)
    : Type 0 where
  pub begins : slice_get (waiting ++ cause ∷ []) 0 ≡ Some first
  pub path : Path (WaitsFor state verdicts) (waiting ++ cause ∷ [])
  pub ends : IsCause cause.refusal
  pub out : Contains verdicts.out cause
  pub steps : length waiting ≡ first.rank

-- the same from the item's own verdict on
pub record IsChainOf (state : State) (verdicts : Judged) (item : Item) (waiting : List Left) (cause : Left)
    : Type 0 where
  pub first : Left
  pub out : Contains verdicts.out first
  pub of : first.item ≡ item
  pub chain : IsChain state verdicts first waiting cause
