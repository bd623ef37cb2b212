-- How far a snapshot was read: what the lines so far say, and what the bytes so far are of lines.
use Rattle.std.specs.Prelude.{◌≡◌, ℕ, List, [], ◌++◌, length, MatchOption}
use Rattle.byte_ends.specs.Lines.{lines_of}
use Rattle.line_reader.specs.Lines.{HasNoLf}
use Rattle.review_ops.specs.Operation.{Operation}
use Rattle.replica_core.specs.Journal.{all_arrived}
use Rattle.snapshot_text.specs.declared.fault.SnapFault.{SnapFault}
use Rattle.snapshot_text.specs.declared.fault.SnapFault.TheVariants.{NoMemory}
use Rattle.snapshot_text.specs.declared.progress.Stage.{Stage}
use Rattle.snapshot_text.specs.declared.progress.Stage.TheVariants.{Header, Operations, Ended}
use Rattle.snapshot_text.specs.declared.progress.Progress.{Progress}
use Rattle.snapshot_text.specs.declared.blocks.Cutter.{Cutter}
use Rattle.snapshot_text.specs.declared.blocks.Blocks.{Blocks}
use Rattle.snapshot_text.specs.Snapshot.{BeginsWith, SaysOperations, IsFirstSnapFault}

-- what was taken of these lines, where this comes next: their operations arrived in the journal, after those before
abbrev pub Stands : List Operation → List (List ℕ) → Stage → List Operation → ℕ → Type 0
Stands base lines Header journal count = (lines ≡ []) × (journal ≡ base) × (count ≡ 0)
Stands base lines Operations journal count =
    (ops : List Operation) × BeginsWith lines ops [] × (journal ≡ all_arrived base ops) × (count ≡ length ops)
Stands base lines Ended journal count =
    (ops : List Operation) × SaysOperations lines ops × (journal ≡ all_arrived base ops)

abbrev pub HasTaken : List Operation → List (List ℕ) → Progress → Type 0
HasTaken base lines progress = Stands base lines progress.stage progress.gathering progress.count

-- the first fault in the lines, which say no operations, unless memory was refused
pub record IsFaultIn (lines : List (List ℕ)) (fault : SnapFault) : Type 0 where
  pub first : IsFirstSnapFault lines fault
  pub only : (ops : List Operation) → SaysOperations lines ops → fault ≡ NoMemory

-- the bytes are those of lines that were taken, and the beginning of the next line, which is held
pub record HasCut (base : List Operation) (bytes : List ℕ) (cutter : Cutter) : Type 0 where
  pub lines : List (List ℕ)
  pub front : List ℕ
  pub form : bytes ≡ front ++ cutter.held.items
  pub cut : (rest : List ℕ) → lines_of (front ++ rest) ≡ lines ++ lines_of rest
  pub plain : HasNoLf cutter.held.items
  pub taken : HasTaken base lines cutter.progress

-- so it is, or a fault was found in what came, whatever comes later
abbrev pub HasRead : List Operation → List ℕ → Blocks → Type 0
HasRead base bytes blocks = MatchOption blocks.fault
    (HasCut base bytes blocks.cutter)
    (λ fault. (later : List ℕ) → IsFaultIn (lines_of (bytes ++ later)) fault)
