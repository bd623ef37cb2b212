-- A journal over a tape, as callers see it, and what its calls promise.
use Rattle.std.specs.Prelude.{◌≡◌, ◌≤◌, ◌⊎◌, ◌+◌, ◌-◌, ◌^◌, ℕ, Bool, true, false, List, [], ◌++◌, Option, IfSome, length, take}
use Rattle.review_ops.specs.Operation.{Operation}
use Rattle.replica_core.specs.Journal.{all_arrived}
use Rattle.snapshot_text.specs.Snapshot.{operation_lines}
use Rattle.byte_ends.specs.Failures.{NoneFailed}
use Rattle.site_journal.specs.Prefixes.{IsPrefix}
use Rattle.site_journal.specs.Text.{header_line, IsFresh, SaysJournal}
use Rattle.site_journal.specs.Tape.{Image, IsLeftBy, IsSettled, Changes}
use Rattle.site_journal.specs.declared.journal.Written.{Written}
use Rattle.site_journal.specs.declared.journal.Written.TheVariants.{Kept, Undone, Doubtful}
use Rattle.site_journal.specs.declared.fault.JournalFault.{JournalFault}
use Rattle.site_journal.specs.declared.fault.JournalFault.TheVariants.{Failed as TapeFailed}
use Rattle.site_journal.specs.declared.fault.KeepFault.{KeepFault}
use Rattle.site_journal.specs.declared.fault.KeepFault.TheVariants.{NoMemory, TooLong, Failed, Spoiled}

-- ---- opening

-- what is left of a text once it was opened: its whole lines, or the first line alone; and what that says
pub record IsOpened (text : List ℕ) (journal : List Operation) (lost : ℕ) (after : List ℕ) : Type 0 where
  pub ops : List Operation
  pub rest : List ℕ
  pub said : SaysJournal text ops rest ⊎ (IsFresh text × (ops ≡ []) × (rest ≡ []))
  pub taken : journal ≡ all_arrived [] ops
  pub torn : lost ≡ length rest
  pub left : SaysJournal after ops []
  pub same : (text ≡ after ++ rest) ⊎ (after ≡ header_line)

-- after an opening that failed at its tape: nothing of the whole lines is lost, and nothing came but the first line
abbrev pub IsUnharmed : Image → Image → Type 0
IsUnharmed old new =
    (new ≡ old)
    ⊎ (IsFresh old.contents × (IsPrefix new.written old.written ⊎ IsPrefix new.written header_line))
    ⊎ ((ops : List Operation) × (rest : List ℕ) × SaysJournal old.contents ops rest
    × IsPrefix (take (length old.contents - length rest) old.synced) new.synced × IsPrefix new.written old.written)

-- the tape after a refused opening: unchanged, or, if the tape failed, unharmed
abbrev pub IsLeftRefused : Option Image → JournalFault → Option Image → Type 0
IsLeftRefused old fault new =
    (¬ (fault ≡ TapeFailed) → new ≡ old) × (fault ≡ TapeFailed → Changes old new IsUnharmed)

-- ---- keeping

pub record Book : Type 0 where
  -- what its tape has, as far as it is known
  pub image : Option Image
  -- how many calls of its tape have failed
  pub failed : ℕ
  -- it keeps nothing any more
  pub is_spoiled : Bool

-- the journal has these operations, all of them synced
pub record IsHolding (book : Book) (ops : List Operation) : Type 0 where
  pub sound : book.is_spoiled ≡ false
  pub holds : IfSome book.image (λ i. IsSettled i × SaysJournal i.contents ops [])

-- the lines of the operations were added, and all is synced
pub record IsKeptAfter (old : Book) (ops : List Operation) (new : Book) : Type 0 where
  pub before : old.is_spoiled ≡ false
  pub sound : new.is_spoiled ≡ false
  pub added : Changes old.image new.image
      (λ i j. IsSettled i × IsSettled j × (j.contents ≡ i.contents ++ operation_lines ops))

-- nothing was written, or what was written was taken back and that is synced, or the journal is spoiled
abbrev pub IsNotKept : Book → KeepFault → Book → Type 0
IsNotKept old NoMemory new = new ≡ old
IsNotKept old TooLong new = new ≡ old
IsNotKept old Spoiled new = (old.is_spoiled ≡ true) × (new ≡ old)
IsNotKept old Failed new =
    (old.is_spoiled ≡ false) × (¬ NoneFailed old.failed new.failed)
    × (new.is_spoiled ≡ false → Changes old.image new.image (λ i j. IsSettled i × IsSettled j × (j.contents ≡ i.contents)))

-- with the lines of these operations the journal would have 2^64 bytes or more
abbrev pub IsFull : Book → List Operation → Type 0
IsFull book ops = IfSome book.image (λ i. 2 ^ 64 ≤ length i.contents + length (operation_lines ops))

-- what a crash leaves says all that was acknowledged, and then the first so many of these, all of them where they were
-- acknowledged too
pub record Recovers (acknowledged ops : List Operation) (are_all : Type 0) (left : List ℕ) : Type 0 where
  pub count : ℕ
  pub rest : List ℕ
  pub says : SaysJournal left (acknowledged ++ take count ops) rest
  pub all : are_all → count ≡ length ops

-- whatever a crash leaves, that is so
abbrev pub SurvivesCrashes : Book → List Operation → List Operation → Type 0 → Type 0
SurvivesCrashes book acknowledged ops are_all =
    IfSome book.image (λ i. (left : List ℕ) → IsLeftBy i left → Recovers acknowledged ops are_all left)

-- unless it is spoiled all that its tape has is synced, and has this length
abbrev pub IsSteady : Option Image → ℕ → Bool → Type 0
IsSteady image len spoiled = spoiled ≡ false → IfSome image (λ i. IsSettled i × (length i.contents ≡ len))

-- what is left of bytes that were written past what is synced
abbrev pub IsWritten : Image → List ℕ → Written → Image → Type 0
IsWritten old bytes Kept new = IsSettled new × (new.contents ≡ old.contents ++ bytes)
IsWritten old bytes Undone new = IsSettled new × (new.contents ≡ old.contents)
IsWritten old bytes Doubtful new = IsPrefix old.contents new.synced × IsPrefix new.written (old.contents ++ bytes)

-- a call of the tape failed in between, unless all were written
abbrev pub CountsWritten : ℕ → ℕ → Written → Type 0
CountsWritten old new Kept = new ≡ old
CountsWritten old new Undone = ¬ NoneFailed old new
CountsWritten old new Doubtful = ¬ NoneFailed old new

-- what was written past a length was taken back, or some of it
pub record TakesBack (len : ℕ) (is_done : Bool) (old new : Image) : Type 0 where
  pub synced : IsPrefix (take len old.synced) new.synced
  pub written : IsPrefix new.written old.written
  pub settled : is_done ≡ true → old.doubted ≡ false → IsSettled new × (new.contents ≡ take len old.contents)

-- nothing was written
abbrev pub IsUnwritten : KeepFault → Type 0
IsUnwritten NoMemory = Unit {0}
IsUnwritten TooLong = Unit {0}
IsUnwritten Spoiled = ⊥
IsUnwritten Failed = ⊥
