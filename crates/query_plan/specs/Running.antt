-- A run of a plan: lines are read and answered one after the other.
use Rattle.std.specs.Prelude.{◌≡◌, ◌⊎◌, ◌+◌, ◌<◌, ℕ, zero, suc, Bool, true, false, List, [], ◌++◌, Option, None, Some}
use Rattle.std.specs.Prelude.{Result}
use Rattle.std.specs.Prelude.{Ok, Err, codes, decimal, flat_map, length, take}
use Rattle.std.specs.Io.KnownBytes.{Appends, Consumes, IsAtEnd}
use Rattle.byte_ends.specs.Failures.{OneFailed}
use Rattle.byte_ends.specs.Lines.{without_cr}
use Rattle.line_reader.specs.Lines.{BeginsWithLine, IsTooLong, IsUnfinished}
use Rattle.query_plan.specs.Line.{LineFits, plan_line_text}
use Rattle.query_plan.specs.Notices.{notice_text}
use Rattle.query_plan.specs.Stepping.{IsRefusedLine, StepsSo}
use Rattle.query_plan.specs.declared.fault.PlanFault.{PlanFault}
use Rattle.query_plan.specs.declared.fault.PlanFault.TheVariants.{BadLine, NoQuery, ReadFault, WriteFault, NoMemory}
use Rattle.query_plan.specs.declared.line.Line.{Line}
use Rattle.query_plan.specs.declared.notice.Notice.{Notice}
use Rattle.query_plan.specs.declared.plan.Plan.{Plan}
use Rattle.query_plan.specs.declared.schedule.Query.{Query}
use Rattle.query_plan.specs.declared.schedule.Query.TheVariants.{Nothing, All, Changes}
use Rattle.query_plan.specs.declared.step.Answer.{Answer}
use Rattle.query_plan.specs.declared.step.Unanswered.TheVariants.{NoQuery as Unasked}

-- ---- texts

-- the line of a query that is given, which may name these changes
abbrev pub given_text : Option Query → List ℕ → List ℕ
given_text None named = []
given_text (Some Nothing) named = codes "nothing\n"
given_text (Some All) named = codes "all\n"
given_text (Some Changes) named =
    codes "changes" ++ flat_map (λ change. codes " " ++ decimal change) named ++ codes "\n"

abbrev pub noted_text : Option Notice → List ℕ
noted_text None = []
noted_text (Some notice) = notice_text notice

-- ---- where a run is

-- the bytes that an output took, where they are known, and how many writes failed
pub record Output : Type 0 where
  pub taken : Option (List ℕ)
  pub failed : ℕ

pub record At : Type 0 where
  pub plan : Plan
  pub held : List ℕ
  pub left : Option (List ℕ)
  pub unread : ℕ
  pub output : Output
  pub errors : Output

-- all of the text was written
pub record IsPutOut (text : List ℕ) (old new : Output) : Type 0 where
  pub whole : Appends old.taken new.taken text
  pub none_failed : new.failed ≡ old.failed

-- a proper prefix of it was written, and then a write failed
pub record IsPutOutInPart (text : List ℕ) (old new : Output) : Type 0 where
  pub count : ℕ
  pub proper : count < length text
  pub prefix : Appends old.taken new.taken (take count text)
  pub one_failed : OneFailed old.failed new.failed

abbrev pub PutsOut : List ℕ → Output → Output → Result (Unit {0}) PlanFault → Type 0
PutsOut text old new (Ok done) = IsPutOut text old new
PutsOut text old new (Err fault) = (fault ≡ WriteFault) × IsPutOutInPart text old new

-- one of two texts was cut short: that of standard error, or the one of the output, which comes after it
abbrev pub IsPartWritten : List ℕ → List ℕ → Output → Output → Output → Output → Type 0
IsPartWritten said noted output errors output' errors' =
    (IsPutOutInPart noted errors errors' × (output' ≡ output))
    ⊎ (IsPutOut noted errors errors' × IsPutOutInPart said output output')

abbrev pub PutsOutLast : List ℕ → Output → Output → Result Bool PlanFault → Type 0
PutsOutLast text old new (Ok more) = (more ≡ true) × IsPutOut text old new
PutsOutLast text old new (Err fault) = (fault ≡ WriteFault) × IsPutOutInPart text old new

-- one text was written to the output, once the other was written to standard error; or one of them was cut short
abbrev pub PutsOutBoth : List ℕ → List ℕ → Output → Output → Result Bool PlanFault → Output → Output → Type 0
PutsOutBoth said noted output errors (Ok more) output' errors' =
    (more ≡ true) × IsPutOut noted errors errors' × IsPutOut said output output'
PutsOutBoth said noted output errors (Err fault) output' errors' =
    ((fault ≡ NoMemory) × (output' ≡ output) × (errors' ≡ errors))
    ⊎ ((fault ≡ WriteFault) × IsPartWritten said noted output errors output' errors')

-- ---- one line

-- these bytes came, and no read failed
pub record HaveCome (came : List ℕ) (old new : At) : Type 0 where
  pub consumed : Consumes old.left new.left came
  pub none_failed : new.unread ≡ old.unread

-- nothing was written
abbrev pub IsSilent : At → At → Type 0
IsSilent old new = (new.output ≡ old.output) × (new.errors ≡ old.errors)

-- a line came, which says this
pub record LineComes (limit : ℕ) (line : Line) (old new : At) : Type 0 where
  pub came : List ℕ
  pub read : HaveCome came old new
  pub piece : List ℕ
  pub begins : BeginsWithLine limit (old.held ++ came) piece new.held
  pub spelled : without_cr piece ≡ plan_line_text line

-- it was done what a line says, and all that is answered was written
pub record IsAnswered (limit : ℕ) (old new : At) : Type 0 where
  pub line : Line
  pub comes : LineComes limit line old new
  pub answer : Answer
  pub done : StepsSo line.word line.time old.plan answer new.plan
  pub noted : IsPutOut (noted_text answer.notice) old.errors new.errors
  pub said : IsPutOut (given_text answer.given new.plan.named.items) old.output new.output

-- the source is at its end, and nothing is held
pub record IsFinished (old new : At) : Type 0 where
  pub came : List ℕ
  pub read : HaveCome came old new
  pub none_held : old.held ++ came ≡ []
  pub ended : IsAtEnd new.left
  pub silent : IsSilent old new
  pub same : new.plan ≡ old.plan

-- a line came that says nothing that a plan reads, or one that is too long, or one without its LF at the end
pub record BadLineComes (limit : ℕ) (old new : At) : Type 0 where
  pub came : List ℕ
  pub read : HaveCome came old new
  pub bad : ((piece : List ℕ) × BeginsWithLine limit (old.held ++ came) piece new.held
      × ((line : Line) → LineFits line → ¬ (without_cr piece ≡ plan_line_text line)))
      ⊎ IsTooLong limit (old.held ++ came) ⊎ (IsUnfinished limit (old.held ++ came) × ¬ (old.held ++ came ≡ []))
  pub silent : IsSilent old new

-- a line came that speaks of an answer, and no query is under way
pub record LacksQuery (limit : ℕ) (old new : At) : Type 0 where
  pub line : Line
  pub comes : LineComes limit line old new
  pub refused : IsRefusedLine line.word old.plan new.plan Unasked
  pub silent : IsSilent old new

-- a line came, and what is answered was written in part: to the output, once all was written to standard error
pub record IsAnsweredInPart (limit : ℕ) (old new : At) : Type 0 where
  pub line : Line
  pub comes : LineComes limit line old new
  pub answer : Answer
  pub done : StepsSo line.word line.time old.plan answer new.plan
  pub cut : IsPartWritten (given_text answer.given new.plan.named.items)
      (noted_text answer.notice) old.output old.errors
      new.output new.errors

-- how the line of this number ends: answered, or none at the end of the source, or refused
abbrev pub EndsLine : ℕ → ℕ → At → Result Bool PlanFault → At → Type 0
EndsLine limit number old (Ok true) new = IsAnswered limit old new
EndsLine limit number old (Ok false) new = IsFinished old new
EndsLine limit number old (Err (BadLine line)) new = (line ≡ number) × BadLineComes limit old new
EndsLine limit number old (Err (NoQuery line)) new = (line ≡ number) × LacksQuery limit old new
EndsLine limit number old (Err ReadFault) new = OneFailed old.unread new.unread × IsSilent old new
EndsLine limit number old (Err WriteFault) new = IsAnsweredInPart limit old new
EndsLine limit number old (Err NoMemory) new = IsSilent old new

-- what the line of this number does, and what is written of it
abbrev pub Does : Line → ℕ → Plan → Output → Output → Result Bool PlanFault → Plan → Output → Output → Type 0
Does line number old output errors (Ok more) new output' errors' =
    (more ≡ true) × (answer : Answer) × StepsSo line.word line.time old answer new
    × IsPutOut (noted_text answer.notice) errors errors'
    × IsPutOut (given_text answer.given new.named.items) output output'
Does line number old output errors (Err (BadLine bad)) new output' errors' = ⊥
Does line number old output errors (Err (NoQuery bad)) new output' errors' =
    (bad ≡ number) × IsRefusedLine line.word old new Unasked × (output' ≡ output) × (errors' ≡ errors)
Does line number old output errors (Err ReadFault) new output' errors' = ⊥
Does line number old output errors (Err WriteFault) new output' errors' =
    (answer : Answer) × StepsSo line.word line.time old answer new
    × IsPartWritten (given_text answer.given new.named.items) (noted_text answer.notice) output errors output' errors'
Does line number old output errors (Err NoMemory) new output' errors' = (output' ≡ output) × (errors' ≡ errors)

-- the same of a text, which may say nothing
abbrev pub Answers : List ℕ → ℕ → Plan → Output → Output → Result Bool PlanFault → Plan → Output → Output → Type 0
Answers text number old output errors result new output' errors' =
    ((line : Line) × (text ≡ plan_line_text line) × Does line number old output errors result new output' errors')
    ⊎ ((result ≡ Err (BadLine number)) × ((line : Line) → LineFits line → ¬ (text ≡ plan_line_text line))
    × (new ≡ old) × (output' ≡ output) × (errors' ≡ errors))
    ⊎ ((result ≡ Err NoMemory) × (output' ≡ output) × (errors' ≡ errors))

-- ---- all lines

-- so many lines were answered, one after the other
abbrev pub AreLinesAnswered : ℕ → ℕ → At → At → Type 0
AreLinesAnswered limit zero old new = new ≡ old
AreLinesAnswered limit (suc count) old new =
    (between : At) × AreLinesAnswered limit count old between × IsAnswered limit between new

-- so many lines were answered, and the next one ended the run so
pub record RunsTo (limit : ℕ) (old new : At) (result : Result Bool PlanFault) : Type 0 where
  pub count : ℕ
  pub last : At
  pub answered : AreLinesAnswered limit count old last
  pub ended : EndsLine limit (count + 1) last result new

-- every line of the source is answered; at the end of that the run ends well. One of 2^64 - 1 lines is given up
abbrev pub RunsPlan : ℕ → At → At → Result (Unit {0}) PlanFault → Type 0
RunsPlan limit old new (Ok done) = RunsTo limit old new (Ok false)
RunsPlan limit old new (Err fault) = RunsTo limit old new (Err fault)
    ⊎ ((fault ≡ ReadFault) × AreLinesAnswered limit 18446744073709551615 old new)
