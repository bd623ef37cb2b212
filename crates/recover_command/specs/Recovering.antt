-- The command `recover`: what is printed, what is written to standard error, and the exit status.
use Rattle.std.specs.Prelude.{◌≡◌, ◌<◌, ℕ, List, Option, Result, Ok, Err, IfSome, MatchResult}
use Rattle.std.specs.Io.KnownBytes.{Appends}
use Rattle.console.specs.Refusals.{refusal_line}
use Rattle.console.specs.Showing.{ErrorOutput, ShowsLine, torn_line}
use Rattle.console.specs.declared.refusals.Refusal.{Refusal}
use Rattle.console.specs.declared.refusals.Refusal.TheVariants.{Memory, Output}
use Rattle.review_ops.specs.Operation.{Operation}
use Rattle.site_journal.specs.Recovery.{CountsRecovery, IsKeptOf, IsRecovered, IsRefusedRecovery}
use Rattle.site_journal.specs.declared.leaving.LeftOut.{LeftOut}
use Rattle.site_journal.specs.declared.recovery.RecoverFault.{RecoverFault}
use Rattle.site_journal.specs.declared.recovery.RecoverFault.TheVariants.{Journal, Snapshot}
use Rattle.snapshot_text.specs.Snapshot.{snapshot_text}
use Rattle.snapshot_text.specs.declared.fault.WriteSnapFault.{WriteSnapFault}
use Rattle.snapshot_text.specs.declared.fault.WriteSnapFault.TheVariants.{NoMemory, WriteFault}
use Rattle.recover_command.specs.Lines.{journal_line}

-- how a recovery ends: how many bytes of a torn line it left out, or why it isn't whole
abbrev pub RecoveryEnd : Type 0
RecoveryEnd = Result ℕ RecoverFault

-- the snapshot of the whole lines is printed, but for what is left out; or nothing, or a proper prefix of it, by the
-- fault
abbrev pub PrintsWholeLines : LeftOut → Option (List ℕ) → Option (List ℕ) → Option (List ℕ) → RecoveryEnd → Type 0
PrintsWholeLines left_out left old new (Ok torn) =
    IfSome left (λ text. (ops : List Operation) × IsRecovered text ops torn
    × (sorted : List Operation) × IsKeptOf left_out ops sorted × Appends old new (snapshot_text sorted))
PrintsWholeLines left_out left old new (Err fault) = IsRefusedRecovery left_out left old fault new

-- how it is refused that the snapshot isn't written
abbrev pub refusal_of : WriteSnapFault → Refusal
refusal_of WriteFault = Output
refusal_of NoMemory = Memory

-- the line of a fault
abbrev pub recovery_fault_line : RecoverFault → List ℕ
recovery_fault_line (Journal fault) = journal_line fault
recovery_fault_line (Snapshot fault) = refusal_line (refusal_of fault)

-- what is written to standard error, and the exit status: nothing for a whole journal, a line for a torn one, and a
-- line for a fault
abbrev pub ReportsRecovery : RecoveryEnd → ErrorOutput → ErrorOutput → ℕ → Type 0
ReportsRecovery (Ok torn) old new status =
    (torn ≡ 0 → new ≡ old) × (0 < torn → ShowsLine (torn_line torn) old new) × (status ≡ 0)
ReportsRecovery (Err fault) old new status = ShowsLine (recovery_fault_line fault) old new × (status ≡ 1)

-- how a journal of which this is left to read is recovered, without what is left out: what the output has taken before
-- and after, how many of its calls failed, and the same of standard error
pub record RecoversAs (left_out : LeftOut) (left old new : Option (List ℕ)) (failed now_failed : ℕ)
    (errors now_errors : ErrorOutput)
    (status : ℕ)
    : Type 0 where
  pub ended : RecoveryEnd
  pub printed : PrintsWholeLines left_out left old new ended
  pub counted : MatchResult ended (λ _. now_failed ≡ failed) (CountsRecovery failed now_failed)
  pub reported : ReportsRecovery ended errors now_errors status
