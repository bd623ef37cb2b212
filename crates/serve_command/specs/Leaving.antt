-- What a site of the program leaves: what keeps its operations, the record that it had, and what was saved.
use Rattle.std.specs.Prelude.{◌≡◌, ◌⊎◌, ◌++◌, ℕ, List, Option, None, Some, Result, Ok, Err, IfSome, IsSome}
use Rattle.replica_core.specs.Journal.{all_arrived}
use Rattle.replica_core.specs.Sets.{IsSameSet}
use Rattle.review_ops.specs.Operation.{Operation}
use Rattle.site_journal.specs.Book.{Book}
use Rattle.site_journal.specs.Tape.{Image}
use Rattle.site_ledger.specs.Keeping.{Survive}
use Rattle.site_serve.specs.declared.setup.ServeFault.{ServeFault}
use Rattle.site_serve.specs.declared.setup.Served.{Served}
use Rattle.serve_command.specs.Beginning.{HasSurvivors, IsRecordBegun}
use Rattle.serve_command.specs.Endings.{EndsAs}
use Rattle.serve_command.specs.Starts.{IsStartOf}
use Rattle.serve_command.specs.declared.command.Ended.{Ended}
use Rattle.serve_command.specs.declared.command.Ended.TheVariants.{Program, Site}
use Rattle.serve_command.specs.declared.fault.ProgramFault.TheVariants.{NoSave}

-- whatever the keeper had at first survives, with some operations after it; and a record that was left is the one at
-- the beginning with these, and nothing else
abbrev pub LeavesKept : {K : Type 0} → (K → List Operation → Type 0) → (List Operation → Type 0) → List Operation → K
    → Option (List Operation) → Type 0
LeavesKept survives_by had begun keeper left =
    (first : List Operation) → had first
    → (more : List Operation) × survives_by keeper (first ++ more) × IfSome left (λ ops. ops ≡ all_arrived begun more)

-- the record that a site had in the end is left, where it ran to its end
abbrev pub IsLeftOf : Result Served ServeFault → Option (List Operation) → Type 0
IsLeftOf (Ok served) left = left ≡ Some served.replica
IsLeftOf (Err fault) left = left ≡ None

-- ---- what is saved

-- the record was saved, or the site ended because it wasn't
abbrev pub IsSavedOr : {S : Type 0} → (S → List Operation → S → Type 0) → S → List Operation → Result (Unit {0}) Ended → S
    → Type 0
IsSavedOr saves old ops ended new = saves old ops new ⊎ (ended ≡ Err (Program NoSave))

-- what was left was saved, and where nothing was nothing is
abbrev pub HasSaved : {S : Type 0} → (S → List Operation → S → Type 0) → S → Option (List Operation)
    → Result (Unit {0}) Ended → S → Type 0
HasSaved saves old None ended new = new ≡ old
HasSaved saves old (Some ops) ended new = IsSavedOr saves old ops ended new

-- the program ends as its site did, unless the record wasn't saved
abbrev pub EndsBy : Result Served ServeFault → Result (Unit {0}) Ended → Type 0
EndsBy (Ok served) ended = (ended ≡ Err (Program NoSave)) ⊎ EndsAs served.is_start_taken served.written ended
EndsBy (Err fault) ended = ended ≡ Err (Site fault)

-- ---- a site with a journal

-- it began with what its tape said and what was loaded; all that it began with and published survives, in what is still
-- known of its tape where something was; and it left just that
pub record HasRun (known : Option Image) (loaded : List Operation) (journal : Book) (left : Option (List Operation)) : Type 0 where
  pub begun : List Operation
  pub whole : IfSome known (λ i. IsRecordBegun i.contents loaded begun)
  pub survivors : IfSome known (λ i. HasSurvivors i.contents begun)
  pub first : List Operation
  pub same : IsSameSet begun first
  pub more : List Operation
  pub kept : Survive journal (first ++ more)
  pub still_known : IsSome known → IsSome journal.image
  pub leaves : IfSome left (λ ops. ops ≡ all_arrived begun more)

-- it was run under a start that it may have by the record that it began with; and it left none where it wasn't run
pub record HasRunUnder (known : Option Image) (loaded : List Operation) (site : ℕ) (named start : Option ℕ)
    (left : Option (List Operation)) : Type 0 where
  pub begun : List Operation
  pub whole : IfSome known (λ i. IsRecordBegun i.contents loaded begun)
  pub under : IfSome start (IsStartOf site named begun)
  pub run : start ≡ None → left ≡ None
