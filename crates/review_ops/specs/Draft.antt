-- The deed that a draft's fields spell.
use Rattle.std.specs.Prelude.{string_bytes}
use Rattle.review_ops.specs.declared.draft.Draft.{Draft}
use Rattle.review_ops.specs.declared.draft.Draft.TheVariants.{PatchSet, Vote, Withdraw, Abandon, Restore, Merged}
use Rattle.review_ops.specs.Deed.{Deed, patch_set, vote, withdraw, abandon, restore, merged}

abbrev pub deed_of : {A : Type 0} → Draft A → Deed
deed_of (PatchSet change set message parent) = patch_set change set (string_bytes message) parent
deed_of (Vote change set label voter value) = vote change set (string_bytes label) (string_bytes voter) value
deed_of (Withdraw change set label voter) = withdraw change set (string_bytes label) (string_bytes voter)
deed_of (Abandon change) = abandon change
deed_of (Restore change) = restore change
deed_of (Merged change) = merged change
