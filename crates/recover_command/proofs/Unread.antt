-- A journal that can't be opened.
use Rattle.std.proofs.Common.{ℕ, List, Option, None, Some, Err, IfSome, refl}
use Rattle.console.specs.Showing.{ErrorOutput}
use Rattle.site_journal.specs.Fault.{IsJournalRefusal}
use Rattle.site_journal.specs.declared.leaving.LeftOut.{LeftOut}
use Rattle.site_journal.specs.declared.fault.JournalFault.TheVariants.{Failed}
use Rattle.site_journal.specs.declared.recovery.RecoverFault.TheVariants.{Journal}
use Rattle.recover_command.specs.Recovering.{RecoversAs, ReportsRecovery}

may_fail : (left : Option (List ℕ)) → IfSome left (λ text. IsJournalRefusal text Failed)
may_fail None = tt
may_fail (Some text) = tt

-- whatever it has, nothing is printed of it
pub not_opened : (left_out : LeftOut) (left taken : Option (List ℕ)) (failed : ℕ) (errors now_errors : ErrorOutput)
    (status : ℕ)
    → ReportsRecovery (Err (Journal Failed)) errors now_errors status
    → RecoversAs left_out left taken taken failed failed errors now_errors status
not_opened left_out left taken failed errors now_errors status reported = record {
  ended = Err (Journal Failed);
  printed = (may_fail left, refl);
  counted = refl;
  reported = reported;
}
