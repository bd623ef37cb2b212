-- What a plan promises of the changes that wait.
use Rattle.std.specs.Prelude.{◌≡◌, ◌≤◌, ◌<◌, ◌⊎◌, ℕ, true, false, List, [], ◌∷◌, length}
use Rattle.std.specs.Ordering.{nat_cmp}
use Rattle.std.specs.BTreeSet.{contains}
use Rattle.query_plan.specs.Giving.{awake, portion}
use Rattle.query_plan.specs.Plan.{is_awake_by, IsNewPlan, is_empty, is_known_by, is_on_list, marks_at}
use Rattle.query_plan.specs.Stepping.{StepsSo}
use Rattle.query_plan.specs.declared.line.Word.{Word}
use Rattle.query_plan.specs.declared.line.Word.TheVariants.{Ask, Need, All, Next, Listed, Whole, Refused, Late, Lost}
use Rattle.query_plan.specs.declared.plan.Plan.{Plan}
use Rattle.query_plan.specs.declared.schedule.Settings.{Settings}
use Rattle.query_plan.specs.declared.step.Answer.{Answer}

abbrev pub IsWaiting : Plan → ℕ → Type 0
IsWaiting plan change = is_on_list plan.waiting.items change ≡ true

-- a change need not wait any more: a whole answer came that listed it, or to a query that named it; or it isn't known,
-- and a query failed that named it alone
abbrev pub Releases : Word → Plan → ℕ → Type 0
Releases (Ask other) plan change = ⊥
Releases (Need other) plan change = ⊥
Releases All plan change = ⊥
Releases Next plan change = ⊥
Releases (Listed other) plan change = ⊥
Releases Whole plan change = (is_on_list plan.named.items change ≡ true) ⊎ (contains nat_cmp plan.listed change ≡ true)
Releases Refused plan change = (plan.named.items ≡ change ∷ []) × (is_known_by plan.marks change ≡ false)
Releases Late plan change = (plan.named.items ≡ change ∷ []) × (is_known_by plan.marks change ≡ false)
Releases Lost plan change = ⊥

-- whatever comes, a change that waits goes on waiting unless that releases it
abbrev pub WaitsOn : Type 0
WaitsOn = (word : Word) (now change : ℕ) (old new : Plan) (answer : Answer) → StepsSo word now old answer new
    → IsWaiting old change → Releases word old change ⊎ IsWaiting new change

-- it waits, and doesn't rest
abbrev pub IsAwake : ℕ → Plan → ℕ → Type 0
IsAwake now plan change =
    IsWaiting plan change × (is_awake_by now plan.schedule.round plan.marks change ≡ true)

-- what a query of changes names: some of those that wait and don't rest, at most so many, and known ones alone where one
-- is among them
pub record IsPortion (now most : ℕ) (plan : Plan) (named : List ℕ) : Type 0 where
  pub awake : (change : ℕ) → is_on_list named change ≡ true → IsAwake now plan change
  pub few : length named ≤ most
  pub some : is_empty named ≡ false
  pub known_first : (change other : ℕ) → IsAwake now plan change → is_known_by plan.marks change ≡ true
      → is_on_list named other ≡ true → is_known_by plan.marks other ≡ true

abbrev pub NamesPortions : Type 0
NamesPortions = (now most : ℕ) (plan : Plan) → 0 < most → is_empty (awake now plan) ≡ false
    → IsPortion now most plan (portion now most plan)

-- the list of those that wait and what is kept of each change agree on which ones wait
abbrev pub Agrees : Plan → Type 0
Agrees plan = (change : ℕ) → (marks_at plan.marks change).waits ≡ is_on_list plan.waiting.items change

-- they do in a new plan, and whatever comes
pub record AgreesOn : Type 0 where
  pub begins : (settings : Settings) (plan : Plan) → IsNewPlan settings plan → Agrees plan
  pub goes_on : (word : Word) (now : ℕ) (old new : Plan) (answer : Answer) → StepsSo word now old answer new
      → Agrees old → Agrees new
