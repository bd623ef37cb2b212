-- The walk from an item that is left out down to its cause: each item waits for the change of the next one, and the
-- cause for none. Its steps are those of `why`.
use Rattle.std.specs.Prelude.{◌≡◌, List, [], ◌∷◌, ◌++◌, Contains}
use Rattle.state_core.specs.State.{State}
use Rattle.state_core.specs.declared.item.Item.{Item}
use Rattle.ready_core.specs.Verdicts.{Judged}
use Rattle.ready_core.specs.declared.verdicts.Left.{Left}
use Rattle.why_text.specs.Chain.{IsChainOf}

-- the verdict is one of these, and on this item
pub record IsListedVerdict (out : List Left) (item : Item) (left : Left) : Type 0 where
  pub there : Contains out left
  pub of : left.item ≡ item

-- the item's chain, with the cause as the last step
pub record IsWalk (state : State) (verdicts : Judged) (item : Item) (steps : List Left) : Type 0 where
  pub waiting : List Left
  pub cause : Left
  pub chain : IsChainOf state verdicts item waiting cause
  pub is : steps ≡ waiting ++ cause ∷ []

-- the cause at the end of the item's chain
pub record IsEndOfChain (state : State) (verdicts : Judged) (item : Item) (cause : Left) : Type 0 where
  pub waiting : List Left
  pub chain : IsChainOf state verdicts item waiting cause
