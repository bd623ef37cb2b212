-- What a record says of a change, and whether it says already what a deed says.
use Rattle.std.specs.Prelude.{◌≡◌, ℕ, ℤ, pos, Option, None, Some, option_map}
use Rattle.std.specs.FinMap.{get}
use Rattle.review_ops.specs.Deed.{Deed, change_of, patch_set, vote, withdraw, abandon, restore, merged}
use Rattle.review_ops.specs.Timestamp.{Timestamp}
use Rattle.change_core.specs.Slots.{Patch, Slot}
use Rattle.change_core.specs.Change.{Change, no_change}
use Rattle.change_core.specs.Views.{status_of}
use Rattle.change_core.specs.declared.life.Status.TheVariants.{New, Abandoned, Merged}
use Rattle.state_core.specs.State.{State}

-- what the record has of a change; where no operation is on it, nothing
abbrev pub change_or_none : Option Change → Change
change_or_none None = no_change
change_or_none (Some change) = change

abbrev pub change_at : State → ℕ → Change
change_at state number = change_or_none (get state number)

-- the commit of a patch set
abbrev pub patch_at : Change → ℕ → Option Patch
patch_at change set = option_map (λ register. register.1) (get change.sets set)

abbrev pub HasPatch : Change → ℕ → Patch → Type 0
HasPatch change set patch = patch_at change set ≡ Some patch

-- a voter's score of a label of a patch set; where there is no vote, it is 0, as that of a withdrawn one
abbrev pub score_by : Option (Timestamp × ℤ) → ℤ
score_by None = pos 0
score_by (Some register) = register.1

abbrev pub score_at : Change → Slot → ℤ
score_at change slot = score_by (get change.votes slot)

-- the change has what the deed says
abbrev pub HasDeed : Change → Deed → Type 0
HasDeed c (patch_set change set message parent) = HasPatch c set (record { message = message; parent = parent })
HasDeed c (vote change set label voter value) = score_at c (record { set = set; label = label; voter = voter }) ≡ value
HasDeed c (withdraw change set label voter) = score_at c (record { set = set; label = label; voter = voter }) ≡ pos 0
HasDeed c (abandon change) = status_of c ≡ Abandoned
HasDeed c (restore change) = status_of c ≡ New
HasDeed c (merged change) = status_of c ≡ Merged

-- the record says already what the deed says
abbrev pub IsRecorded : State → Deed → Type 0
IsRecorded state deed = HasDeed (change_at state (change_of deed)) deed

-- all that a gate looks at: the status, the commits of the patch sets, and the scores
pub record LookAlike (a b : Change) : Type 0 where
  pub status : status_of a ≡ status_of b
  pub patches : (set : ℕ) → patch_at a set ≡ patch_at b set
  pub scores : (slot : Slot) → score_at a slot ≡ score_at b slot
