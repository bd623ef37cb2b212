-- How often a judge is asked.
use Rattle.std.specs.Prelude.{ℕ, ◌+◌, ◌-◌, ◌^◌, min, List}
use Rattle.review_ops.specs.Operation.{Operation}
use Rattle.walk_core.specs.Ranks.{HasCount}
use Rattle.state_core.specs.State.{State}
use Rattle.state_core.specs.Items.{IsItem, item_cmp}
use Rattle.watch_core.specs.Touched.{IsTouched}

-- a count that has risen so often, but not beyond the greatest value
abbrev pub counted : ℕ → ℕ → ℕ
counted before more = before + min more (2 ^ 64 - 1 - before)

-- so many items of the state are of a change that the operations touch
abbrev pub AreTouchedItems : State → List Operation → ℕ → Type 0
AreTouchedItems state later count = HasCount item_cmp (λ item. IsItem state item × IsTouched later item.change) count
