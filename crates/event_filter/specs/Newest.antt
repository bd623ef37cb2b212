-- Where an operation is written above all that was written there before.
use Rattle.std.specs.Prelude.{◌≡◌, ◌≢◌, Option, None, Some}
use Rattle.std.specs.declared.cmp.Ordering.TheVariants.{Less}
use Rattle.std.specs.FinMap.{get}
use Rattle.review_ops.specs.Deed.{Deed, change_of, patch_set, vote, withdraw, abandon, restore, merged}
use Rattle.review_ops.specs.Operation.{Operation}
use Rattle.review_ops.specs.Timestamp.{Timestamp, timestamp_cmp}
use Rattle.change_core.specs.Change.{Change}
use Rattle.change_core.specs.Views.{status_of}
use Rattle.change_core.specs.declared.life.Status.TheVariants.{Merged}
use Rattle.state_core.specs.State.{State}
use Rattle.event_filter.specs.Recorded.{change_at}

-- the stamp is above that of the register
abbrev pub IsAbove : {T : Type 0} → Timestamp → Option (Timestamp × T) → Type 0
IsAbove stamp None = Unit {0}
IsAbove stamp (Some register) = timestamp_cmp register.0 stamp ≡ Less

-- the stamp is above that of the register that the deed is written to
abbrev pub IsWrittenLast : Change → Timestamp → Deed → Type 0
IsWrittenLast c stamp (patch_set change set message parent) = IsAbove stamp (get c.sets set)
IsWrittenLast c stamp (vote change set label voter value) =
    IsAbove stamp (get c.votes (record { set = set; label = label; voter = voter }))
IsWrittenLast c stamp (withdraw change set label voter) =
    IsAbove stamp (get c.votes (record { set = set; label = label; voter = voter }))
IsWrittenLast c stamp (abandon change) = IsAbove stamp c.life
IsWrittenLast c stamp (restore change) = IsAbove stamp c.life
IsWrittenLast c stamp (merged change) = Unit {0}

-- no operation on the same thing was stamped later
abbrev pub IsNewest : State → Operation → Type 0
IsNewest state op = IsWrittenLast (change_at state (change_of op.deed)) op.stamp op.deed

-- an abandon or a restore counts only where the change isn't merged
abbrev pub CountsFor : Change → Deed → Type 0
CountsFor c (patch_set change set message parent) = Unit {0}
CountsFor c (vote change set label voter value) = Unit {0}
CountsFor c (withdraw change set label voter) = Unit {0}
CountsFor c (abandon change) = status_of c ≢ Merged
CountsFor c (restore change) = status_of c ≢ Merged
CountsFor c (merged change) = Unit {0}

-- the deed counts, as the change is now
abbrev pub IsOpenTo : State → Deed → Type 0
IsOpenTo state deed = CountsFor (change_at state (change_of deed)) deed
