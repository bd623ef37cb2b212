-- What a line does to a plan, and what is answered.
use Rattle.std.specs.Prelude.{◌≡◌, ℕ, true, false, Option, None, Some}
use Rattle.query_plan.specs.Ending.{EndsBadly, EndsWell, Lists}
use Rattle.query_plan.specs.Giving.{GivesQuery}
use Rattle.query_plan.specs.Plan.{IsAskedFor, WantsAll}
use Rattle.query_plan.specs.declared.line.Word.{Word}
use Rattle.query_plan.specs.declared.line.Word.TheVariants.{Ask, Need, All, Next, Listed, Whole, Refused, Late, Lost}
use Rattle.query_plan.specs.declared.notice.Notice.{Notice}
use Rattle.query_plan.specs.declared.plan.Plan.{Plan}
use Rattle.query_plan.specs.declared.schedule.Failure.{Failure}
use Rattle.query_plan.specs.declared.schedule.Failure.TheVariants.{Refused as IsRefused, Late as IsLate, Lost as IsLost}
use Rattle.query_plan.specs.declared.schedule.Query.{Query}
use Rattle.query_plan.specs.declared.schedule.Query.TheVariants.{Nothing, All as OfAll, Changes}
use Rattle.query_plan.specs.declared.step.Answer.{Answer}
use Rattle.query_plan.specs.declared.step.Unanswered.{Unanswered}
use Rattle.query_plan.specs.declared.step.Unanswered.TheVariants.{NoQuery, NoMemory}

-- nothing is answered
abbrev pub silence : Answer
silence = record { given = None; notice = None }

abbrev pub IsUnderWay : Plan → Type 0
IsUnderWay plan = ¬ (plan.schedule.query ≡ Nothing)

-- a query that is under way is lost
abbrev pub LosesQuery : Query → ℕ → Plan → Option Notice → Plan → Type 0
LosesQuery Nothing now old notice new = (notice ≡ None) × (new ≡ old)
LosesQuery OfAll now old notice new = (told : Notice) × (notice ≡ Some told) × EndsBadly now IsLost old told new
LosesQuery Changes now old notice new = (told : Notice) × (notice ≡ Some told) × EndsBadly now IsLost old told new

-- a query that is under way is lost, and then the next one is given
abbrev pub GivesNext : ℕ → Plan → Answer → Plan → Type 0
GivesNext now old answer new =
    (between : Plan) × LosesQuery old.schedule.query now old answer.notice between
    × (given : Query) × (answer.given ≡ Some given) × GivesQuery now between given new

-- the query under way failed
abbrev pub FailsSo : Failure → ℕ → Plan → Answer → Plan → Type 0
FailsSo failure now old answer new = IsUnderWay old
    × (told : Notice) × (answer ≡ record { given = None; notice = Some told }) × EndsBadly now failure old told new

-- what a word does at a time
abbrev pub StepsSo : Word → ℕ → Plan → Answer → Plan → Type 0
StepsSo (Ask change) now old answer new = (answer ≡ silence) × IsAskedFor now change true old new
StepsSo (Need change) now old answer new = (answer ≡ silence) × IsAskedFor now change false old new
StepsSo All now old answer new = (answer ≡ silence) × WantsAll old new
StepsSo Next now old answer new = GivesNext now old answer new
StepsSo (Listed change) now old answer new = IsUnderWay old × (answer ≡ silence) × Lists change old new
StepsSo Whole now old answer new = IsUnderWay old × (answer ≡ silence) × EndsWell now old new
StepsSo Refused now old answer new = FailsSo IsRefused now old answer new
StepsSo Late now old answer new = FailsSo IsLate now old answer new
StepsSo Lost now old answer new = FailsSo IsLost now old answer new

-- a line that speaks of an answer is refused exactly where no query is under way, and then nothing changed; memory is
-- refused only where one is
abbrev pub IsRefusedAnswer : Plan → Plan → Unanswered → Type 0
IsRefusedAnswer old new NoQuery = (old.schedule.query ≡ Nothing) × (new ≡ old)
IsRefusedAnswer old new NoMemory = IsUnderWay old

abbrev pub IsRefusedLine : Word → Plan → Plan → Unanswered → Type 0
IsRefusedLine (Ask change) old new fault = fault ≡ NoMemory
IsRefusedLine (Need change) old new fault = fault ≡ NoMemory
IsRefusedLine All old new fault = ⊥
IsRefusedLine Next old new fault = fault ≡ NoMemory
IsRefusedLine (Listed change) old new fault = IsRefusedAnswer old new fault
IsRefusedLine Whole old new fault = IsRefusedAnswer old new fault
IsRefusedLine Refused old new fault = IsRefusedAnswer old new fault
IsRefusedLine Late old new fault = IsRefusedAnswer old new fault
IsRefusedLine Lost old new fault = IsRefusedAnswer old new fault
