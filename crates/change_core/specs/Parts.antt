-- A change, as the parts of its state show it.
use Rattle.std.specs.Prelude.{ℕ, ℤ, Bool, List, map, Option, string_bytes}
use Rattle.std.specs.Ordering.{nat_cmp}
use Rattle.std.specs.FinMap as finite
use Rattle.lattice_core.specs.JoinMap.{map_of}
use Rattle.review_ops.specs.Timestamp.{Timestamp}
use Rattle.change_core.specs.Slots.{Patch, Slot, slot_cmp}
use Rattle.change_core.specs.Change.{Change}
use Rattle.change_core.specs.declared.life.Life.{Life}
use Rattle.change_core.specs.declared.commit.Commit.{Commit}
use Rattle.change_core.specs.declared.vote_slot.VoteSlot.{VoteSlot}

abbrev pub patch_of : {A : Type 0} → Commit A → Patch
patch_of commit = record { message = string_bytes commit.message; parent = commit.parent }

abbrev pub slot_of : {A : Type 0} → VoteSlot A → Slot
slot_of slot = record { set = slot.set; label = string_bytes slot.label; voter = string_bytes slot.voter }

-- the registers of the patch sets, and those of the votes
abbrev pub sets_shown : {A : Type 0} → List (ℕ × (Timestamp × Commit A)) → finite.FinMap nat_cmp (Timestamp × Patch)
sets_shown = map_of nat_cmp (λ n. n) (λ r. (r.0, patch_of r.1))

abbrev pub votes_shown : {A : Type 0} → List (VoteSlot A × (Timestamp × ℤ)) → finite.FinMap slot_cmp (Timestamp × ℤ)
votes_shown = map_of slot_cmp slot_of (λ r. r)

-- the registers that an iterator over the votes has left
abbrev pub registers_shown : {A : Type 0} → List (VoteSlot A × (Timestamp × ℤ)) → List (Slot × (Timestamp × ℤ))
registers_shown = map (λ register. (slot_of register.0, register.1))

abbrev pub change_of_parts : {A : Type 0} → Bool → Option (Timestamp × Life) → List (ℕ × (Timestamp × Commit A))
    → List (VoteSlot A × (Timestamp × ℤ)) → Change
change_of_parts merged life sets votes =
    record { merged = merged; life = life; sets = sets_shown sets; votes = votes_shown votes }
