-- How queries end.
use Rattle.std.specs.Prelude.{◌≡◌, ◌⊎◌, ℕ, Bool, true, false, List, [], ◌∷◌, if◌then◌else◌, nat_lt, not, ◌&&◌, ◌==◌}
use Rattle.std.specs.Prelude.{length}
use Rattle.std.specs.List.{filter}
use Rattle.std.specs.Ordering.{nat_cmp}
use Rattle.std.specs.BTreeSet.{BTreeSet, Updates, contains}
use Rattle.query_plan.specs.Marks.{as_failed, as_listed, as_repeated, as_slow, as_unlisted}
use Rattle.query_plan.specs.Plan.{is_on_list, marks_at}
use Rattle.query_plan.specs.Schedule.{brought_forward, later, lost_changes, paused_all, refused_changes, whole_all}
use Rattle.query_plan.specs.Schedule.{whole_changes}
use Rattle.query_plan.specs.declared.marks.Marks.{Marks}
use Rattle.query_plan.specs.declared.notice.Notice.{Notice}
use Rattle.query_plan.specs.declared.notice.Notice.TheVariants.{Halved, Repeated, Slow, Failed, Paused}
use Rattle.query_plan.specs.declared.plan.Plan.{Plan}
use Rattle.query_plan.specs.declared.schedule.Failure.{Failure}
use Rattle.query_plan.specs.declared.schedule.Failure.TheVariants.{Refused, Late, Lost}
use Rattle.query_plan.specs.declared.schedule.Query.{Query}
use Rattle.query_plan.specs.declared.schedule.Query.TheVariants.{Nothing, All, Changes}

-- the answer to the query under way lists a change
pub record Lists (change : ℕ) (old new : Plan) : Type 0 where
  pub listed : Updates nat_cmp old.listed new.listed change true
  pub same : (new.waiting ≡ old.waiting) × (new.marks ≡ old.marks) × (new.named ≡ old.named)
  pub planned : new.schedule ≡ old.schedule

-- the query that was under way is over
pub record IsQueryOver (new : Plan) : Type 0 where
  pub none_named : new.named.items ≡ []
  pub none_listed : (change : ℕ) → contains nat_cmp new.listed change ≡ false

-- what was named and listed is as it was
abbrev pub HasSameQuery : Plan → Plan → Type 0
HasSameQuery old new = (new.named ≡ old.named) × (new.listed ≡ old.listed)

abbrev pub is_all : Query → Bool
is_all Nothing = false
is_all All = true
is_all Changes = false

-- ---- by a whole answer

-- a change waits on that was neither named nor listed
abbrev pub stays : List ℕ → BTreeSet ℕ → ℕ → Bool
stays named listed change = not (is_on_list named change) && not (contains nat_cmp listed change)

-- what was listed doesn't rest; what was named alone rests for an hour
abbrev pub marked : Bool → ℕ → List ℕ → BTreeSet ℕ → ℕ → Marks → Marks
marked all until named listed change old =
    if contains nat_cmp listed change then as_listed all old
    else (if is_on_list named change then as_unlisted until old else old)

pub record EndsWell (now : ℕ) (old new : Plan) : Type 0 where
  pub waits : new.waiting.items ≡ filter (stays old.named.items old.listed) old.waiting.items
  pub kept : (change : ℕ) → marks_at new.marks change
      ≡ marked (is_all old.schedule.query) (later now 3600) old.named.items old.listed change
      (marks_at old.marks change)
  pub over : IsQueryOver new
  pub planned : new.schedule
      ≡ (if is_all old.schedule.query then whole_all now old.schedule else whole_changes old.schedule)

-- ---- by a failure

-- a known change is queried again where its own query failed, twice
abbrev pub is_repeated : Marks → Bool
is_repeated marks = marks.is_known && nat_lt marks.repeats 2

-- it rests for an hour where Gerrit took too long for it, and answered another query since it last did; else for the
-- rest of the round, and, if it is known, for an hour or until its next event
abbrev pub given_up : Bool → ℕ → ℕ → Marks → Marks
given_up slow now round old =
    if slow then as_slow (later now 3600) old else as_failed round (later now 3600) old

-- what is kept of other changes is the same
abbrev pub KeepsBut : ℕ → Marks → Plan → Plan → Type 0
KeepsBut change marks old new = (other : ℕ) → marks_at new.marks other
    ≡ (if other == change then marks else marks_at old.marks other)

-- several changes were named: they wait on, and half as many are queried next
pub record IsHalved (now count : ℕ) (late : Bool) (old : Plan) (told : Notice) (new : Plan) : Type 0 where
  pub same : (new.waiting ≡ old.waiting) × (new.marks ≡ old.marks)
  pub planned : new.schedule ≡ refused_changes now count late old.schedule
  pub notice : told ≡ Halved count

-- a known change was named alone: it waits on, and is queried again
pub record IsRepeated (now change : ℕ) (late : Bool) (old : Plan) (told : Notice) (new : Plan) : Type 0 where
  pub repeated : is_repeated (marks_at old.marks change) ≡ true
  pub waits : new.waiting ≡ old.waiting
  pub kept : KeepsBut change (as_repeated (marks_at old.marks change)) old new
  pub planned : new.schedule ≡ refused_changes now 1 late old.schedule
  pub notice : told ≡ Repeated 1

-- a change was named alone that isn't queried again at once: it rests; if it is known, it waits on, and all changes are
-- queried within a minute
pub record IsGivenUp (now change : ℕ) (late : Bool) (old : Plan) (told : Notice) (new : Plan) : Type 0 where
  pub enough : is_repeated (marks_at old.marks change) ≡ false
  pub waits : new.waiting.items ≡ (if (marks_at old.marks change).is_known then old.waiting.items
      else filter (λ other. not (other == change)) old.waiting.items)
  pub kept : KeepsBut change
      (given_up (late && old.schedule.is_well) now old.schedule.round (marks_at old.marks change)) old new
  pub planned : let refused = refused_changes now 1 late old.schedule in new.schedule
      ≡ (if (marks_at old.marks change).is_known then brought_forward now refused else refused)
  pub notice : told ≡ (if late && old.schedule.is_well then Slow change else Failed change)

-- what becomes of a change that was named alone
abbrev pub IsChangeRefused : ℕ → ℕ → Bool → Plan → Notice → Plan → Type 0
IsChangeRefused now change late old told new =
    IsRepeated now change late old told new ⊎ IsGivenUp now change late old told new

-- what becomes of the changes that were named, which Gerrit refused or took too long for
abbrev pub AreChangesRefused : ℕ → Bool → List ℕ → Plan → Notice → Plan → Type 0
AreChangesRefused now late [] old told new = IsHalved now 0 late old told new
AreChangesRefused now late (change ∷ []) old told new = IsChangeRefused now change late old told new
AreChangesRefused now late (change ∷ other ∷ changes) old told new =
    IsHalved now (length (change ∷ other ∷ changes)) late old told new

-- no answer came: all wait on
pub record AreLost (now count : ℕ) (old : Plan) (told : Notice) (new : Plan) : Type 0 where
  pub same : (new.waiting ≡ old.waiting) × (new.marks ≡ old.marks)
  pub planned : new.schedule ≡ lost_changes now old.schedule
  pub notice : told ≡ Repeated count

-- all changes are queried again after a pause
pub record IsPaused (now : ℕ) (old : Plan) (told : Notice) (new : Plan) : Type 0 where
  pub same : (new.waiting ≡ old.waiting) × (new.marks ≡ old.marks)
  pub planned : new.schedule ≡ paused_all now old.schedule
  pub notice : told ≡ Paused old.schedule.all_pause

abbrev pub ChangesFail : ℕ → Failure → List ℕ → Plan → Notice → Plan → Type 0
ChangesFail now Refused named old told new = AreChangesRefused now false named old told new
ChangesFail now Late named old told new = AreChangesRefused now true named old told new
ChangesFail now Lost named old told new = AreLost now (length named) old told new

abbrev pub QueryFails : Query → ℕ → Failure → Plan → Notice → Plan → Type 0
QueryFails Nothing now failure old told new = ChangesFail now failure old.named.items old told new
QueryFails All now failure old told new = IsPaused now old told new
QueryFails Changes now failure old told new = ChangesFail now failure old.named.items old told new

-- the query under way failed
abbrev pub EndsBadly : ℕ → Failure → Plan → Notice → Plan → Type 0
EndsBadly now failure old told new = QueryFails old.schedule.query now failure old told new × IsQueryOver new
