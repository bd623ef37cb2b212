-- What an operation writes, and where.
use Rattle.std.specs.Prelude.{ℕ, ℤ, pos, Bool, true, false, Option, None, Some, if◌then◌else◌}
use Rattle.review_ops.specs.Timestamp.{Timestamp}
use Rattle.review_ops.specs.Deed.{Deed, patch_set, vote, withdraw, abandon, restore, merged}
use Rattle.review_ops.specs.Operation.{Operation}
use Rattle.change_core.specs.Slots.{Patch, Slot, same_set, same_slot}
use Rattle.change_core.specs.declared.life.Life.{Life}
use Rattle.change_core.specs.declared.life.Life.TheVariants.{Abandoned, Restored}

-- the commit that a deed uploads as this patch set
abbrev pub commit_in : ℕ → Deed → Option Patch
commit_in set (patch_set change number message parent) =
    if same_set set number then Some (record { message = message; parent = parent }) else None
commit_in set (vote change number label voter value) = None
commit_in set (withdraw change number label voter) = None
commit_in set (abandon change) = None
commit_in set (restore change) = None
commit_in set (merged change) = None

-- the score that a deed gives in this slot; to withdraw is to vote 0
abbrev pub score_in : Slot → Deed → Option ℤ
score_in slot (patch_set change number message parent) = None
score_in slot (vote change number label voter value) =
    if same_slot slot (record { set = number; label = label; voter = voter }) then Some value else None
score_in slot (withdraw change number label voter) =
    if same_slot slot (record { set = number; label = label; voter = voter }) then Some (pos 0) else None
score_in slot (abandon change) = None
score_in slot (restore change) = None
score_in slot (merged change) = None

-- whether a deed abandons or restores
abbrev pub life_in : Deed → Option Life
life_in (patch_set change number message parent) = None
life_in (vote change number label voter value) = None
life_in (withdraw change number label voter) = None
life_in (abandon change) = Some Abandoned
life_in (restore change) = Some Restored
life_in (merged change) = None

abbrev pub merges : Deed → Bool
merges (patch_set change number message parent) = false
merges (vote change number label voter value) = false
merges (withdraw change number label voter) = false
merges (abandon change) = false
merges (restore change) = false
merges (merged change) = true

-- what is written has the operation's stamp
abbrev pub with_stamp : {T : Type 0} → Timestamp → Option T → Option (Timestamp × T)
with_stamp stamp None = None
with_stamp stamp (Some value) = Some (stamp, value)

abbrev pub stamped : {T : Type 0} → (Deed → Option T) → Operation → Option (Timestamp × T)
stamped read op = with_stamp op.stamp (read op.deed)
