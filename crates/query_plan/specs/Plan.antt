-- The plan of a feed's queries, and what feeds ask for does to it.
use Rattle.std.specs.Prelude.{◌≡◌, ℕ, Bool, false, List, [], ◌∷◌, ◌++◌, ◌&&◌, not, nat_le, ◌==◌, if◌then◌else◌}
use Rattle.std.specs.Prelude.{length, unwrap_or}
use Rattle.std.specs.List.{list_any}
use Rattle.std.specs.Ordering.{nat_cmp}
use Rattle.std.specs.BTreeMap.{BTreeMap, get}
use Rattle.std.specs.BTreeSet.{contains}
use Rattle.query_plan.specs.Marks.{as_waiting, rests, unmarked, with_event}
use Rattle.query_plan.specs.Schedule.{gathered, new_schedule}
use Rattle.query_plan.specs.declared.marks.Marks.{Marks}
use Rattle.query_plan.specs.declared.plan.Plan.{Plan}
use Rattle.query_plan.specs.declared.schedule.Settings.{Settings}

-- what is kept of a change
abbrev pub marks_at : BTreeMap ℕ Marks → ℕ → Marks
marks_at marks change = unwrap_or (get nat_cmp marks change) unmarked

-- the change is on the list
abbrev pub is_on_list : List ℕ → ℕ → Bool
is_on_list changes change = list_any (λ other. other == change) changes

abbrev pub is_empty : List ℕ → Bool
is_empty changes = length changes == 0

-- it had an event, or a query of all changes listed it
abbrev pub is_known_by : BTreeMap ℕ Marks → ℕ → Bool
is_known_by marks change = (marks_at marks change).is_known

-- it may be queried by its number
abbrev pub is_awake_by : ℕ → ℕ → BTreeMap ℕ Marks → ℕ → Bool
is_awake_by now round marks change = not (rests now round (marks_at marks change))

-- nothing waits, nothing is kept, and all changes are due
pub record IsNewPlan (settings : Settings) (plan : Plan) : Type 0 where
  pub none_waits : plan.waiting.items ≡ []
  pub none_kept : (change : ℕ) → marks_at plan.marks change ≡ unmarked
  pub none_named : plan.named.items ≡ []
  pub none_listed : (change : ℕ) → contains nat_cmp plan.listed change ≡ false
  pub planned : plan.schedule ≡ new_schedule settings

-- the greatest number of a change that Gerrit takes
abbrev pub greatest_change : ℕ
greatest_change = 2147483647

abbrev pub marks_asked : Bool → Marks → Marks
marks_asked event old = if event then with_event old else old

-- what is kept of a change that is asked for, which begins to wait or not
abbrev pub marks_after : Bool → Bool → Marks → Marks
marks_after begins event old = if begins then as_waiting (marks_asked event old) else marks_asked event old

-- a change begins to wait where it is asked for, unless Gerrit has none of its number, it rests, or it waits already
abbrev pub begins_to_wait : ℕ → ℕ → Bool → Plan → Bool
begins_to_wait now change event plan =
    nat_le change greatest_change
    && (not (rests now plan.schedule.round (marks_asked event (marks_at plan.marks change)))
    && not (marks_at plan.marks change).waits)

-- a change is asked for: it waits behind all others, and is known where it had an event
pub record IsAskedFor (now change : ℕ) (event : Bool) (old new : Plan) : Type 0 where
  pub waits : new.waiting.items
      ≡ (if begins_to_wait now change event old then old.waiting.items ++ change ∷ [] else old.waiting.items)
  pub kept : (other : ℕ) → marks_at new.marks other
      ≡ (if nat_le change greatest_change && (other == change)
      then marks_after (begins_to_wait now change event old) event
      (marks_at old.marks other) else marks_at old.marks other)
  pub planned : new.schedule
      ≡ (if begins_to_wait now change event old && is_empty old.waiting.items then gathered now old.schedule
      else old.schedule)
  pub same_query : (new.named ≡ old.named) × (new.listed ≡ old.listed)

-- all changes are wanted: they are due at once
abbrev pub WantsAll : Plan → Plan → Type 0
WantsAll old new = new ≡ record old { schedule = record old.schedule { all_due = 0 } }
