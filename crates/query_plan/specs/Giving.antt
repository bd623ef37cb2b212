-- Which query is given next.
use Rattle.std.specs.Prelude.{◌≡◌, ◌≤◌, ◌<◌, ◌⊎◌, ◌-◌, ◌/◌, ℕ, true, false, List, ◌++◌, if◌then◌else◌, nat_le}
use Rattle.std.specs.Prelude.{nat_lt, length, take, drop, Option, Some, None}
use Rattle.std.specs.List.{filter}
use Rattle.std.specs.BTreeMap.{BTreeMap}
use Rattle.query_plan.specs.Plan.{is_awake_by, is_empty, is_known_by}
use Rattle.query_plan.specs.Schedule.{given_all, given_changes, turn_ended}
use Rattle.query_plan.specs.declared.marks.Marks.{Marks}
use Rattle.query_plan.specs.declared.plan.Plan.{Plan}
use Rattle.query_plan.specs.declared.schedule.Query.{Query}
use Rattle.query_plan.specs.declared.schedule.Query.TheVariants.{Nothing, All, Changes}

-- ---- which changes are named

-- the changes that wait and don't rest, in the order in which they were asked for
abbrev pub awake : ℕ → Plan → List ℕ
awake now plan = filter (is_awake_by now plan.schedule.round plan.marks) plan.waiting.items

-- the known ones of a list, if there are any, else all
abbrev pub first_class : BTreeMap ℕ Marks → List ℕ → List ℕ
first_class marks changes =
    if is_empty (filter (is_known_by marks) changes) then changes else filter (is_known_by marks) changes

-- all of a list that has at most so many, else its first ones and so many of its last ones, `most` in all
abbrev pub picked : List ℕ → ℕ → ℕ → List ℕ
picked changes most last =
    if nat_le (length changes) most then changes
    else take (most - last) changes ++ drop (length changes - last) changes

-- half of a portion are the last ones, unless queries failed of late
abbrev pub portion_of : ℕ → Plan → List ℕ → List ℕ
portion_of most plan changes =
    picked (first_class plan.marks changes) most (if nat_lt plan.schedule.most 50 then 0 else most / 2)

abbrev pub portion : ℕ → ℕ → Plan → List ℕ
portion now most plan = portion_of most plan (awake now plan)

-- ---- what is given

-- nothing but the named changes and the schedule is another
pub record HasSame (old new : Plan) : Type 0 where
  pub waiting : new.waiting ≡ old.waiting
  pub marks : new.marks ≡ old.marks
  pub listed : new.listed ≡ old.listed

-- changes are named, in a turn that may query so many
pub record NamesChanges (now left : ℕ) (old new : Plan) : Type 0 where
  pub some_left : 0 < left
  pub some_awake : is_empty (awake now old) ≡ false
  pub named : new.named.items ≡ portion now left old
  pub planned : new.schedule ≡ given_changes left (length (portion now left old)) old.schedule

-- a turn that may query so many changes goes on, or ends where all that waits rests or all of these were queried
abbrev pub GoesOnWithTurn : ℕ → ℕ → Plan → Query → Plan → Type 0
GoesOnWithTurn now left old Nothing new =
    ((left ≡ 0) ⊎ (is_empty (awake now old) ≡ true)) × (new.schedule ≡ turn_ended now old.schedule)
    × (new.named ≡ old.named)
GoesOnWithTurn now left old All new = ⊥
GoesOnWithTurn now left old Changes new = NamesChanges now left old new

-- all changes are queried, in a turn that begins
pub record BeginsWithAll (now : ℕ) (old new : Plan) : Type 0 where
  pub due : old.schedule.all_due ≤ now
  pub planned : new.schedule ≡ given_all now old.schedule
  pub named : new.named ≡ old.named

-- nothing is due
pub record IsNotDue (now : ℕ) (old new : Plan) : Type 0 where
  pub all_later : now < old.schedule.all_due
  pub none_due : (is_empty old.waiting.items ≡ true) ⊎ (now < old.schedule.waiting_due)
  pub same : new ≡ old

-- the changes that wait are due, and all changes aren't
pub record BeginsWithChanges (now : ℕ) (old : Plan) (given : Query) (new : Plan) : Type 0 where
  pub all_later : now < old.schedule.all_due
  pub due : old.schedule.waiting_due ≤ now
  pub some_wait : is_empty old.waiting.items ≡ false
  pub goes_on : GoesOnWithTurn now old.schedule.most old given new

-- a turn begins, if something is due
abbrev pub BeginsTurn : ℕ → Plan → Query → Plan → Type 0
BeginsTurn now old given new =
    ((given ≡ All) × BeginsWithAll now old new) ⊎ ((given ≡ Nothing) × IsNotDue now old new)
    ⊎ BeginsWithChanges now old given new

abbrev pub GoesOnOrBegins : Option ℕ → ℕ → Plan → Query → Plan → Type 0
GoesOnOrBegins (Some left) now old given new = GoesOnWithTurn now left old given new
GoesOnOrBegins None now old given new = BeginsTurn now old given new

-- the next query is given
abbrev pub GivesQuery : ℕ → Plan → Query → Plan → Type 0
GivesQuery now old given new = GoesOnOrBegins old.schedule.left now old given new × HasSame old new
