-- What is recovered of a journal's text.
use Rattle.std.specs.Prelude.{◌≡◌, ◌⊎◌, ◌<◌, ℕ, List, [], Option, IfSome, length, take}
use Rattle.std.specs.Io.KnownBytes.{Appends}
use Rattle.replica_core.specs.InOrder.{IsInOrderOf}
use Rattle.replica_core.specs.Journal.{all_arrived}
use Rattle.review_ops.specs.Operation.{Operation}
use Rattle.snapshot_text.specs.Snapshot.{CountsWriteFault, snapshot_text}
use Rattle.snapshot_text.specs.declared.fault.WriteSnapFault.TheVariants.{NoMemory, WriteFault}
use Rattle.site_journal.specs.Text.{SaysJournal, IsFresh}
use Rattle.site_journal.specs.Fault.{IsJournalRefusal}
use Rattle.site_journal.specs.Leaving.{kept_of}
use Rattle.site_journal.specs.declared.leaving.LeftOut.{LeftOut}
use Rattle.site_journal.specs.declared.recovery.RecoverFault.{RecoverFault}
use Rattle.site_journal.specs.declared.recovery.RecoverFault.TheVariants.{Journal, Snapshot}

-- the operations of its whole lines; all that is left out is a torn line, or a prefix of the first one
abbrev pub IsRecovered : List ℕ → List Operation → ℕ → Type 0
IsRecovered text ops torn =
    ((rest : List ℕ) × SaysJournal text ops rest × (torn ≡ length rest)) ⊎ (IsFresh text × (ops ≡ []) × (torn ≡ length text))

-- these operations in order, but for those that are left out
abbrev pub IsKeptOf : LeftOut → List Operation → List Operation → Type 0
IsKeptOf left_out ops sorted = IsInOrderOf (kept_of left_out (all_arrived [] ops)) sorted

-- a journal that isn't read has nothing written of it. Where the drain failed, a proper prefix of the snapshot is
-- written
abbrev pub IsRefusedRecovery : LeftOut → Option (List ℕ) → Option (List ℕ) → RecoverFault → Option (List ℕ) → Type 0
IsRefusedRecovery left_out left old (Journal fault) new =
    IfSome left (λ text. IsJournalRefusal text fault) × (new ≡ old)
IsRefusedRecovery left_out left old (Snapshot WriteFault) new =
    IfSome left (λ text. (ops : List Operation) × (torn : ℕ) × IsRecovered text ops torn
    × (sorted : List Operation) × IsKeptOf left_out ops sorted
    × (count : ℕ) × (count < length (snapshot_text sorted)) × Appends old new (take count (snapshot_text sorted)))
IsRefusedRecovery left_out left old (Snapshot NoMemory) new = new ≡ old

-- after a drain that failed its count is one more
abbrev pub CountsRecovery : ℕ → ℕ → RecoverFault → Type 0
CountsRecovery old new (Journal fault) = new ≡ old
CountsRecovery old new (Snapshot fault) = CountsWriteFault old new fault
