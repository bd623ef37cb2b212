-- Own conditions as verdicts keep them.
use Rattle.std.specs.Prelude.{◌≡◌, Bool, List, Contains}
use Rattle.review_ops.specs.Operation.{Operation}
use Rattle.gate_rules.specs.declared.condition.Condition.{Condition}
use Rattle.state_core.specs.declared.item.Item.{Item}
use Rattle.ready_core.specs.declared.verdicts.Left.{Left}
use Rattle.ready_core.specs.declared.verdicts.Refusal.TheVariants.{Own}
use Rattle.watch_core.specs.Touched.{touches}

-- the item is left out for the condition
pub record IsOutWith (out : List Left) (item : Item) (condition : Condition) : Type 0 where
  pub left : Left
  pub there : Contains out left
  pub of : left.item ≡ item
  pub own : left.refusal ≡ Own condition

-- whether one of the operations is on the item's change
abbrev pub is_of_touched : List Operation → Item → Bool
is_of_touched later item = touches later item.change
