-- The changes that a record has as open and that an answer doesn't list.
use Rattle.std.specs.Prelude.{ℕ, List, Bool, true, false, ◌&&◌, not, map}
use Rattle.std.specs.BTreeSet.{BTreeSet, contains}
use Rattle.std.specs.FinMap.{entries}
use Rattle.std.specs.List.{filter}
use Rattle.std.specs.Ordering.{nat_cmp}
use Rattle.review_ops.specs.Deed.{Deed, abandon}
use Rattle.change_core.specs.Change.{Change}
use Rattle.change_core.specs.Views.{status_of}
use Rattle.change_core.specs.declared.life.Status.{Status}
use Rattle.change_core.specs.declared.life.Status.TheVariants.{New, Abandoned, Merged}
use Rattle.state_core.specs.State.{State}

abbrev pub is_new : Status → Bool
is_new New = true
is_new Abandoned = false
is_new Merged = false

-- the change is open and isn't listed
abbrev pub has_vanished : BTreeSet ℕ → ℕ × Change → Bool
has_vanished listed entry = is_new (status_of entry.1) && not (contains nat_cmp listed entry.0)

-- an abandon of each of them, by number
abbrev pub abandons_among : BTreeSet ℕ → List (ℕ × Change) → List Deed
abandons_among listed changes = map (λ entry. abandon entry.0) (filter (has_vanished listed) changes)

abbrev pub abandons : BTreeSet ℕ → State → List Deed
abandons listed state = abandons_among listed (entries state)
