-- The state of a change, as a function of the set of its operations.
use Rattle.std.specs.Prelude.{◌≡◌, ℕ, List}
use Rattle.std.specs.List.{list_any, filter_map}
use Rattle.std.specs.FinMap as map
use Rattle.review_ops.specs.Operation.{Operation}
use Rattle.change_core.specs.Slots.{Slot}
use Rattle.change_core.specs.Change.{Change, life_order, patch_order, vote_order}
use Rattle.change_core.specs.Written.{commit_in, score_in, life_in, merges, stamped}
use Rattle.change_core.specs.Registers.{IsRegister}

-- the change is what these operations, all on it, add up to: it is merged where one of them merges it, and each of its
-- registers holds the greatest of what they wrote to it
pub record IsStateOf (ops : List Operation) (change : Change) : Type 0 where
  pub merged : change.merged ≡ list_any (λ op. merges op.deed) ops
  pub life : IsRegister life_order (filter_map (stamped life_in) ops) change.life
  pub sets : (set : ℕ) → IsRegister patch_order (filter_map (stamped (commit_in set)) ops) (map.get change.sets set)
  pub votes : (slot : Slot)
      → IsRegister vote_order (filter_map (stamped (score_in slot)) ops) (map.get change.votes slot)
