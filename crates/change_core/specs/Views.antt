-- What Gerrit and Zuul see of a change (Gerrit, "Review Labels" and "Changes"; Zuul, "Gerrit driver").
use Rattle.std.specs.Prelude.{ℕ, ◌≤◌, List, Option, None, Some, IsSome, MatchOption, option_map, option_and_then}
use Rattle.std.specs.Prelude.{if◌then◌else◌}
use Rattle.std.specs.FinMap as map
use Rattle.review_ops.specs.Timestamp.{Timestamp}
use Rattle.change_core.specs.Change.{Change}
use Rattle.change_core.specs.declared.life.Life.{Life}
use Rattle.change_core.specs.declared.life.Life.TheVariants as life
use Rattle.change_core.specs.declared.life.Status.{Status}
use Rattle.change_core.specs.declared.life.Status.TheVariants.{New, Abandoned, Merged}

-- the patch set is known
abbrev pub IsKnownSet : Change → ℕ → Type 0
IsKnownSet change set = IsSome (map.get change.sets set)

-- the greatest known patch set
pub record IsGreatestKnown (change : Change) (current : ℕ) : Type 0 where
  pub known : IsKnownSet change current
  pub greatest : (set : ℕ) → IsKnownSet change set → set ≤ current

-- the current patch set is the greatest known; there is none where none is known
abbrev pub IsCurrent : Change → Option ℕ → Type 0
IsCurrent change current = MatchOption current ((set : ℕ) → ¬ (IsKnownSet change set)) (IsGreatestKnown change)

-- a patch set's message, and its parent's change
abbrev pub message_of : Change → ℕ → Option (List ℕ)
message_of change set = option_map (λ register. register.1.message) (map.get change.sets set)

abbrev pub parent_of : Change → ℕ → Option ℕ
parent_of change set = option_and_then (λ register. register.1.parent) (map.get change.sets set)

-- what the newest abandon or restore says
abbrev pub status_by : Option (Timestamp × Life) → Status
status_by None = New
status_by (Some (stamp, life.Abandoned)) = Abandoned
status_by (Some (stamp, life.Restored)) = New

-- merged is final
abbrev pub status_of : Change → Status
status_of change = if change.merged then Merged else status_by change.life
