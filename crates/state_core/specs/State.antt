-- The state of a review record: a finite map from the changes that an operation is on to what the operations on them
-- add up to.
use Rattle.std.specs.Prelude.{◌≡◌, ℕ, Bool, List, [], filter, fold, MatchOption}
use Rattle.std.specs.Ordering.{nat_cmp, eq_by_cmp}
use Rattle.std.specs.Coded.{Coded, coded_ℕ}
use Rattle.std.specs.FinMap as map
use Rattle.std.specs.FinMap.{FinMap, empty, get}
use Rattle.lattice_core.specs.JoinMap.{map_of, put_joined, map_joined}
use Rattle.review_ops.specs.Deed.{change_of}
use Rattle.review_ops.specs.Operation.{Operation}
use Rattle.change_core.specs.Change.{Change, change_joined, effect_of}
use Rattle.change_core.specs.Codes.{change_code}
use Rattle.change_core.specs.StateOf.{IsStateOf}

abbrev pub State : Type 0
State = FinMap nat_cmp Change

-- how a state is stored as a value
abbrev pub state_code : Coded State
state_code = map.code coded_ℕ change_code

-- whether the operation is on the change
abbrev pub is_on : ℕ → Operation → Bool
is_on change op = eq_by_cmp nat_cmp change (change_of op.deed)

-- the operations on one change
abbrev pub ops_on : ℕ → List Operation → List Operation
ops_on change journal = filter (is_on change) journal

-- the state is that of the journal: it has just the changes that an operation is on, and each is what the operations on
-- it add up to
abbrev pub IsJournalState : List Operation → State → Type 0
IsJournalState journal state =
    (change : ℕ) → MatchOption (get state change) (ops_on change journal ≡ [])
    (λ c. (¬ (ops_on change journal ≡ [])) × IsStateOf (ops_on change journal) c)

-- the state with the effect of one more operation
abbrev pub with_effect : State → Operation → State
with_effect state op = put_joined change_joined state (change_of op.deed) (effect_of op)

-- the effects of the operations, joined one after the other: `state_of-IsJournalState` says what that is
unfoldable pub state_of : List Operation → State
state_of journal = fold with_effect empty journal

-- the join of two states: change by change
abbrev pub states_joined : State → State → State
states_joined = map_joined change_joined

-- what the map of the changes shows
abbrev pub state_shown : List (ℕ × Change) → State
state_shown = map_of nat_cmp (λ number. number) (λ change. change)
